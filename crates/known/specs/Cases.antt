-- Known answers of the two orders, and of the example vault just opened, as one table.
use Rattle.std.specs.Prelude.{◌≡◌, ℕ, ◌^◌, Bool, true, cond, List, [], ◌∷◌, Ok, Err, ◌==◌}
use Rattle.std.specs.List.{list_all}
use Rattle.refusals.specs.Refusals.{number_of}
use Rattle.model.specs.Calls.{Call, Answer, write}
use Rattle.model.specs.Orders.{Order}
use Rattle.model.specs.Rules.{answer}
use Rattle.dayrun.specs.Example.{marks, grades, example_policy, example_state}

-- what is asked: is the first code at or below the second; how is a call answered
pub data Question : Type 0 where
  at_or_below : Order → ℕ → ℕ → Question
  called : Call → Question

-- 1 for yes, 0 for no
abbrev pub yes_no : Bool → ℕ
yes_no b = cond b 1 0

-- a refusal's number, 0 where the call is accepted
abbrev pub number : Answer → ℕ
number (Ok numbers) = 0
number (Err refusal) = number_of refusal

-- what the definitions give
abbrev pub given : Question → ℕ
given (at_or_below order a b) = yes_no (order.below a b)
given (called c) = number (answer example_policy example_state c)

pub record Row : Type 0 where
  pub question : Question
  pub known : ℕ

abbrev row : Question → ℕ → Row
row q n = record { question = q; known = n }

abbrev pub table : List Row
table =
    row (at_or_below marks 0 1) 1
    ∷ row (at_or_below marks 1 2) 0
    ∷ row (at_or_below marks (2 ^ 60) 3) 0
    ∷ row (at_or_below marks (2 ^ 63) (2 ^ 63)) 0
    ∷ row (at_or_below grades 3 3) 1
    ∷ row (at_or_below grades 0 3) 0
    ∷ row (at_or_below grades 6 7) 0
    ∷ row (called (write 1 0 8 [])) 0
    ∷ row (called (write 1 0 9 [])) 15
    ∷ []

-- the test of a row
abbrev pub agrees : Row → Bool
agrees r = given r.question == r.known

abbrev pub KnownAnswers : Type 0
KnownAnswers = list_all agrees table ≡ true
