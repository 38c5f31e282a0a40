-- What a page store means, what its check answers, and what a write leaves of its memory.
use Rattle.std.specs.Prelude.{◌≡◌, ℕ, ◌+◌, cond, not, List, [], ◌∷◌, length, take, is_ok, vec_items, sum_by, Result, ◌==◌, nat_lt}
use Rattle.refusals.specs.Refusals.{Test, checked, on}
use Rattle.refusals.specs.declared.refusal.Refusal.{Refusal}
use Rattle.refusals.specs.declared.refusal.Refusal.TheVariants.{PastMemory, StoreLimit}
use Rattle.stores.specs.Cuts.{cut}
use Rattle.spans.specs.Limits.{within_limits}
use Rattle.spans.specs.Rooms.{room}
use Rattle.stores.specs.Sheets.{write_answer}
use Rattle.spans.specs.Sizes.{sizes_of}
use Rattle.stores.specs.Splices.{spliced}
use Rattle.pages.specs.Paging.{all_inside, gathered, needed, none_twice, OthersSame}
use Rattle.pages.specs.declared.pages.ListedPages.{ListedPages}
use Rattle.pages.specs.declared.pages.Pages.{Pages}

-- every byte of the memory, also those of no sheet
abbrev pub page_memory : Pages → List ℕ
page_memory s = vec_items s.listed.memory

-- the numbers of the pages that are used, in the order of the sheets
abbrev pub page_list : Pages → List ℕ
page_list s = vec_items s.listed.list

-- the sizes of the sheets, in number order
abbrev pub page_sizes : Pages → List ℕ
page_sizes s = sizes_of s.sheets

-- the bytes of the listed pages, one page after the other
abbrev pub bytes_of : ListedPages → List ℕ
bytes_of l = gathered (vec_items l.memory) (vec_items l.list)

-- those of a page store
abbrev pub listed_bytes : Pages → List ℕ
listed_bytes s = bytes_of s.listed

-- the sheets: each takes the next of the listed pages, as many as its size needs, and has as many of their bytes as its size
abbrev pub page_sheets : Pages → List (List ℕ)
page_sheets s = cut (room 16) (page_sizes s) (listed_bytes s)

-- sheets of these sizes on the listed pages are refused where a limit is passed, where there are more or fewer pages than
-- the sheets need or one of them is listed twice, and where a page reaches past a memory of n bytes
abbrev pub page_tests : List ℕ → List ℕ → ℕ → List Test
page_tests zs ns n =
    on (not (within_limits zs)) StoreLimit
    ∷ on (nat_lt 1024 (length ns)) StoreLimit
    ∷ on (not (length ns == needed zs)) StoreLimit
    ∷ on (not (none_twice ns)) StoreLimit
    ∷ on (not (all_inside ns n)) PastMemory
    ∷ []

-- what the check answers
abbrev pub page_check : List ℕ → List ℕ → ℕ → Result (Unit {0}) Refusal
page_check zs ns n = checked (page_tests zs ns n) tt

-- the sizes that pass it
abbrev pub fitted : List ℕ → List ℕ → ℕ → Result (List ℕ) Refusal
fitted zs ns n = checked (page_tests zs ns n) zs

-- the sheets of a page store that is made of these sizes, pages and memory: none where the check refuses
abbrev pub made_sheets : List ℕ → List ℕ → List ℕ → List (List ℕ)
made_sheets zs ns memory = cond (is_ok (page_check zs ns (length memory))) (cut (room 16) zs (gathered memory ns)) []

-- the pages that it uses
abbrev pub made_list : List ℕ → List ℕ → List ℕ → List ℕ
made_list zs ns memory = cond (is_ok (page_check zs ns (length memory))) ns []

-- the listed bytes after a write to sheet k from place p on: those bytes alone change, and none after a refusal
abbrev pub listed_after : Pages → ℕ → ℕ → List ℕ → List ℕ
listed_after s k p bytes =
    cond (is_ok (write_answer (page_sheets s) k p (length bytes))) (spliced (listed_bytes s) (sum_by (room 16) (take k (page_sizes s)) + p) bytes) (listed_bytes s)

-- what a write leaves: the list, the listed bytes but for those that it names, and each page that is not listed
pub record Rewritten (s : Pages) (k p : ℕ) (bytes : List ℕ) (t : Pages) : Type 0 where
  pub list : page_list t ≡ page_list s
  pub listed : listed_bytes t ≡ listed_after s k p bytes
  pub others : OthersSame (page_list s) (page_memory s) (page_memory t)
