-- What the calls of a store answer and leave, over its row of sheets.
use Rattle.std.specs.Prelude.{ℕ, cond, List, [], length, take, drop, is_ok, Result, slice_index_or, slice_set}
use Rattle.refusals.specs.Refusals.{Test, checked}
use Rattle.refusals.specs.declared.refusal.Refusal.{Refusal}
use Rattle.spans.specs.Bounds.{bound_tests}
use Rattle.stores.specs.Splices.{spliced}

-- the bytes of sheet k, and none where there is no such sheet
abbrev pub sheet_of : List (List ℕ) → ℕ → List ℕ
sheet_of ss k = slice_index_or ss k []

-- how many bytes sheet k has
abbrev pub size_of : List (List ℕ) → ℕ → ℕ
size_of ss k = length (sheet_of ss k)

-- b bytes from place p of sheet k are refused where there is no such sheet, and where they reach past its end
abbrev pub reach_tests : List (List ℕ) → ℕ → ℕ → ℕ → List Test
reach_tests ss k p b = bound_tests (length ss) (size_of ss k) k p b

-- what a read of b bytes from place p of sheet k answers
abbrev pub read_answer : List (List ℕ) → ℕ → ℕ → ℕ → Result (Unit {0}) Refusal
read_answer ss k p b = checked (reach_tests ss k p b) tt

-- what a write of b bytes from place p of sheet k on answers
abbrev pub write_answer : List (List ℕ) → ℕ → ℕ → ℕ → Result (Unit {0}) Refusal
write_answer ss k p b = checked (reach_tests ss k p b) tt

-- the buffer after a read: the sheet's bytes from place p on, or, after a refusal, what it held
abbrev pub filled : List (List ℕ) → ℕ → ℕ → List ℕ → List ℕ
filled ss k p buffer = cond (is_ok (read_answer ss k p (length buffer))) (take (length buffer) (drop p (sheet_of ss k))) buffer

-- the sheets after a write: sheet k with the bytes from place p on, or, after a refusal, all as they were
abbrev pub written : List (List ℕ) → ℕ → ℕ → List ℕ → List (List ℕ)
written ss k p bytes = cond (is_ok (write_answer ss k p (length bytes))) (slice_set ss k (spliced (sheet_of ss k) p bytes)) ss
