-- A ladder of r rungs.
use Rattle.std.specs.Prelude.{ℕ, Bool, ◌&&◌, nat_le}

-- the classes are 1 to r
abbrev pub is_rung : ℕ → ℕ → Bool
is_rung r code = nat_le 1 code && nat_le code r

-- both codes are rungs, in the order of numbers
abbrev pub at_or_below : ℕ → ℕ → ℕ → Bool
at_or_below r a b = is_rung r a && is_rung r b && nat_le a b
