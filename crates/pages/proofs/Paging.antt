-- What a page store's invariant says of its sheets, and what its check comes to.
use Rattle.std.proofs.Common.{◌≡◌, ℕ, ◌+◌, ◌*◌, ◌≤◌, true, false, eqb, ◌≢◌, List, [], ◌∷◌, length, get_or, take, is_ok, Ok, Err, vec_items, vec_len, sum_by, Result, sym, refl, ap, ◌∙◌, arith, MatchResult}
use Rattle.std.proofs.lemmas.List.Sums.{sum_by-cons}
use Rattle.std.proofs.lemmas.Bool.{cond-false, eq-eqb, le-ltb, ne_eqb}
use Rattle.refusals.specs.Refusals.{checked}
use Rattle.refusals.specs.declared.refusal.Refusal.{Refusal}
use Rattle.refusals.specs.declared.refusal.Refusal.TheVariants.{PastMemory, StoreLimit}
use Rattle.refusals.proofs.Testing.{checked_stop}
use Rattle.stores.specs.Cuts.{cut}
use Rattle.spans.specs.Limits.{within_limits}
use Rattle.stores.specs.Reaches.{Reached}
use Rattle.spans.specs.Rooms.{room, units_of}
use Rattle.stores.specs.Sheets.{size_of, write_answer}
use Rattle.spans.specs.Bounds.{bound_tests}
use Rattle.spans.specs.Sizes.{limited}
use Rattle.stores.proofs.Cutting.{size_cut}
use Rattle.spans.proofs.Limiting.{limited_ok}
use Rattle.spans.proofs.Rooms.{room_wide}
use Rattle.stores.proofs.Reaching.{answered}
use Rattle.pages.specs.PageStores.{bytes_of, fitted, listed_bytes, made_list, made_sheets, page_check, page_sheets, page_sizes, page_tests}
use Rattle.pages.specs.Paging.{all_inside, gathered, needed, none_twice}
use Rattle.pages.specs.declared.pages.ListedPages.{ListedPages}
use Rattle.pages.specs.declared.pages.Pages.{Pages}
use Rattle.pages.proofs.Gathering.{length_gathered}

wide : (z : ℕ) → z ≤ room 16 z
wide z = room_wide 16 z (omega arith)

-- what sheets take is what their pages have
pub pages_sum : (zs : List ℕ) → sum_by (room 16) zs ≡ 16 * needed zs
pages_sum [] = refl
pages_sum (z ∷ zs) = omega (arith, sum_by-cons (room 16) z zs, sum_by-cons (units_of 16) z zs, pages_sum zs)

module _ (l : ListedPages) where
  pub whole_pages : all_inside (vec_items l.list) (length (vec_items l.memory)) ≡ true
  whole_pages = let e : length (vec_items l.memory) ≡ vec_len l.memory = omega (arith, l.memory.ok.0) in ap (all_inside (vec_items l.list)) e ∙ l.whole

  pub bytes_long : length (bytes_of l) ≡ 16 * length (vec_items l.list)
  bytes_long = length_gathered (vec_items l.memory) (vec_items l.list) whole_pages

module _ (s : Pages) where
  inside : sum_by (room 16) (page_sizes s) ≤ length (listed_bytes s)
  inside = omega (arith, pages_sum (page_sizes s), s.enough, s.listed.list.ok.0, bytes_long s.listed)

  pub page_size : (k : ℕ) → size_of (page_sheets s) k ≡ get_or (page_sizes s) k 0
  page_size k = size_cut (room 16) wide (page_sizes s) (listed_bytes s) k inside

  pub page_answered : (k p b : ℕ) (r : Result ℕ Refusal) → r ≡ checked (bound_tests (length (page_sizes s)) (get_or (page_sizes s) k 0) k p b) (sum_by (room 16) (take k (page_sizes s)) + p) →
      MatchResult r (Reached (room 16) (page_sizes s) (listed_bytes s) k p b) (λ e. write_answer (page_sheets s) k p b ≡ Err e)
  page_answered k p b r is = answered (room 16) wide (page_sizes s) (listed_bytes s) inside k p b r is

-- sizes that were not refused, of sheets that take `end` bytes, on the listed pages of a memory of n bytes
module _ (zs ws ns : List ℕ) (n end : ℕ) (kept : Ok ws ≡ limited 16 zs) (taken : end ≡ sum_by (room 16) ws) (short : length ns ≤ 1024) where
  within : within_limits zs ≡ true
  within = (limited_ok 16 zs ws kept).0

  all : end ≡ 16 * needed zs
  all = taken ∙ ap (sum_by (room 16)) (limited_ok 16 zs ws kept).1 ∙ pages_sum zs

  pub other_count : 16 * length ns ≢ end → Err StoreLimit ≡ fitted zs ns n
  other_count differs = rw (within, le-ltb 1024 (length ns) short, ne_eqb (length ns) (needed zs) (λ e. differs (omega (arith, all))))

  module _ (enough : 16 * length ns ≡ end) (apart : none_twice ns ≡ true) where
    as_many : eqb (length ns) (needed zs) ≡ true
    as_many = eq-eqb (length ns) (needed zs) (omega (arith, all))

    pub past_memory : all_inside ns n ≡ false → Err PastMemory ≡ fitted zs ns n
    past_memory past = rw (within, le-ltb 1024 (length ns) short, as_many, apart, past)

    pub in_memory : all_inside ns n ≡ true → Ok ws ≡ fitted zs ns n
    in_memory whole = rw (within, le-ltb 1024 (length ns) short, as_many, apart, whole, (limited_ok 16 zs ws kept).1)

-- what is made where the check refuses
module _ (zs ns m listed : List ℕ) (len : ℕ) (e : Refusal) (refused : Err e ≡ fitted zs listed len) (same : listed ≡ ns) (long : len ≡ length m) where
  no : is_ok (page_check zs ns (length m)) ≡ false
  no = ap is_ok (sym (checked_stop (page_tests zs ns (length m)) [] tt zs e (refused ∙ ap (λ l. fitted zs l len) same ∙ ap (fitted zs ns) long)))

  pub no_sheets : (ws bs : List ℕ) → ws ≡ [] → cut (room 16) ws bs ≡ made_sheets zs ns m
  no_sheets ws bs none = ap (λ l. cut (room 16) l bs) none ∙ sym (cond-false _ (cut (room 16) zs (gathered m ns)) [] no)

  pub no_pages : (ws : List ℕ) → ws ≡ [] → ws ≡ made_list zs ns m
  no_pages ws none = none ∙ sym (cond-false _ ns [] no)
