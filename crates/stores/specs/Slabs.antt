-- What a slab means, what its check answers, and what a write leaves of its memory.
use Rattle.std.specs.Prelude.{ℕ, ◌+◌, cond, not, List, [], ◌∷◌, length, take, is_ok, vec_items, sum_by, sum, Result, nat_lt}
use Rattle.refusals.specs.Refusals.{Test, checked, on}
use Rattle.refusals.specs.declared.refusal.Refusal.{Refusal}
use Rattle.refusals.specs.declared.refusal.Refusal.TheVariants.{PastMemory, StoreLimit}
use Rattle.spans.specs.Limits.{within_limits}
use Rattle.spans.specs.Rooms.{exact}
use Rattle.spans.specs.Sizes.{sizes_of}
use Rattle.stores.specs.Cuts.{cut}
use Rattle.stores.specs.Sheets.{write_answer}
use Rattle.stores.specs.Splices.{spliced}
use Rattle.stores.specs.declared.slab.Slab.{Slab}

-- every byte of the memory, also those of no sheet
abbrev pub slab_memory : Slab → List ℕ
slab_memory s = vec_items s.memory

-- the sizes of the sheets, in number order
abbrev pub slab_sizes : Slab → List ℕ
slab_sizes s = sizes_of s.sheets

-- the sheets: the first at the front of the memory, and each other where the one before it ends
abbrev pub slab_sheets : Slab → List (List ℕ)
slab_sheets s = cut exact (slab_sizes s) (slab_memory s)

-- sheets of these sizes are refused where they break a limit, and where they reach past a memory of n bytes
abbrev pub slab_tests : List ℕ → ℕ → List Test
slab_tests zs n = on (not (within_limits zs)) StoreLimit ∷ on (nat_lt n (sum zs)) PastMemory ∷ []

-- what the check answers
abbrev pub slab_check : List ℕ → ℕ → Result (Unit {0}) Refusal
slab_check zs n = checked (slab_tests zs n) tt

-- the sizes that pass it
abbrev pub fitted : List ℕ → ℕ → Result (List ℕ) Refusal
fitted zs n = checked (slab_tests zs n) zs

-- the sheets of a slab that is made of these sizes and this memory: none where the check refuses
abbrev pub made_sheets : List ℕ → List ℕ → List (List ℕ)
made_sheets zs memory = cond (is_ok (slab_check zs (length memory))) (cut exact zs memory) []

-- where sheet k starts: after all bytes of the sheets before it
abbrev pub start_of : List (List ℕ) → ℕ → ℕ
start_of ss k = sum_by length (take k ss)

-- the memory after a write to sheet k from place p on: those bytes alone change, and none after a refusal
abbrev pub memory_after : Slab → ℕ → ℕ → List ℕ → List ℕ
memory_after s k p bytes =
    cond (is_ok (write_answer (slab_sheets s) k p (length bytes))) (spliced (slab_memory s) (start_of (slab_sheets s) k + p) bytes) (slab_memory s)
