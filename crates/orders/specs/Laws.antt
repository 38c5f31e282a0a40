-- What every order keeps. A class is a code; `below a b` says that a is at or below b.
use Rattle.std.specs.Prelude.{◌≡◌, ℕ, Bool, true}

pub record Ordered (class : ℕ → Bool) (below : ℕ → ℕ → Bool) : Type 0 where
  -- only classes stand in the relation
  pub classes : (a b : ℕ) → below a b ≡ true → (class a ≡ true) × (class b ≡ true)
  -- every class is at or below itself
  pub reflexive : (a : ℕ) → class a ≡ true → below a a ≡ true
  -- what is at or below a class that is at or below a third is at or below the third
  pub transitive : (a b c : ℕ) → below a b ≡ true → below b c ≡ true → below a c ≡ true
