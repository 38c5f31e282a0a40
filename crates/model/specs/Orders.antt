-- An order of classes, as the model has it: the meaning of an order of marks or of grades.
use Rattle.std.specs.Prelude.{ℕ, Bool}
use Rattle.orders.specs.Laws.{Ordered}
use Rattle.orders.specs.declared.order.Order.{Ghosts as Ordering}

pub record Order : Type 0 where
  -- whether a code is a class
  pub class : ℕ → Bool
  -- whether the first code is at or below the second
  pub below : ℕ → ℕ → Bool

-- it keeps the laws of every order
abbrev pub Lawful : Order → Type 0
Lawful o = Ordered o.class o.below

-- the meaning of an order of the code
abbrev pub order : {O : Type 0} → Ordering O → O → Order
order m o = record { class = m.class o; below = m.below o }
