-- The tests of a call by the count and the size of sheets.
use Rattle.std.specs.Prelude.{ℕ, ◌+◌, List, [], ◌∷◌, nat_le, nat_lt}
use Rattle.refusals.specs.Refusals.{Test, on}
use Rattle.refusals.specs.declared.refusal.Refusal.TheVariants.{NoSheet, PastEnd}

-- of `count` sheets, b bytes from place p of sheet k, which has this size, are refused where there is no such sheet, and
-- where they reach past its end
abbrev pub bound_tests : ℕ → ℕ → ℕ → ℕ → ℕ → List Test
bound_tests count size k p b = on (nat_le count k) NoSheet ∷ on (nat_lt size (p + b)) PastEnd ∷ []
