-- The example vault, as a table, and the register that says it.
use Rattle.std.specs.Prelude.{ℕ, ◌/◌, ◌%◌, ◌^◌, List, [], ◌∷◌, ◌++◌, length, replicate}
use Rattle.std.specs.List.{flat_map}
use Rattle.register.specs.Tables.{Book}
use Rattle.register.specs.declared.label.Label.{Label}
use Rattle.register.specs.declared.entry.Entry.{Entry}
use Rattle.orders.specs.Compartments as compartments
use Rattle.orders.specs.Ladder as ladder
use Rattle.model.specs.Orders.{Order}
use Rattle.model.specs.States.{Policy, State}
use Rattle.model.specs.Opening.{fixed, started}
use Rattle.asks.specs.Replies.{line_text}
use Rattle.asks.specs.declared.answer.Answer.TheVariants.{Opened}
use Rattle.dayrun.specs.Days.{ended, printed}

-- a mark with a grade
abbrev at : ℕ → ℕ → Label
at mark grade = record { mark = mark; grade = grade }

-- a sheet: its size, its mark and its grade
abbrev sheet : ℕ → ℕ → ℕ → Entry
sheet size mark grade = record { size = size; label = at mark grade }

-- five sheets, three certified programs, and the programs that the two seats start with
abbrev pub book : Book
book = record {
  entries = sheet 8 1 3 ∷ sheet 8 0 3 ∷ sheet 4 1 6 ∷ sheet 4 0 6 ∷ sheet 4 0 6 ∷ [];
  certificates =
      record { program = 2; reading = at 1 3; writing = at 1 3 }
      ∷ record { program = 3; reading = at 1 3; writing = at 0 5 }
      ∷ record { program = 4; reading = at 0 3; writing = at 0 3 } ∷ [];
  starts = 2 ∷ 4 ∷ [];
}

-- marks are compartments, grades the ladder of six
abbrev pub marks : Order
marks = record { class = compartments.is_class; below = compartments.at_or_below }

abbrev pub grades : Order
grades = record { class = ladder.is_rung 6; below = ladder.at_or_below 6 }

-- the floor
abbrev pub floor : ℕ
floor = 5

-- a store of zeros
abbrev pub zeros : List (List ℕ)
zeros = replicate 8 0 ∷ replicate 8 0 ∷ replicate 4 0 ∷ replicate 4 0 ∷ replicate 4 0 ∷ []

-- a number in two, four or eight bytes, the highest first
abbrev two : ℕ → List ℕ
two n = n / 256 ∷ n % 256 ∷ []

abbrev four : ℕ → List ℕ
four n = two (n / 2 ^ 16) ++ two (n % 2 ^ 16)

abbrev eight : ℕ → List ℕ
eight n = four (n / 2 ^ 32) ++ four (n % 2 ^ 32)

-- the bytes of a register: counts, sizes, program numbers, starting numbers, marks, grades
abbrev pub encoded : Book → List ℕ
encoded b =
    two (length b.entries) ++ (two (length b.certificates) ++ (two (length b.starts)
    ++ (flat_map (λ e. four e.size) b.entries ++ (flat_map (λ c. two c.program) b.certificates ++ (flat_map two b.starts
    ++ (flat_map (λ e. eight e.label.mark) b.entries ++ (flat_map (λ c. eight c.reading.mark ++ eight c.writing.mark) b.certificates
    ++ (flat_map (λ e. eight e.label.grade) b.entries ++ flat_map (λ c. eight c.reading.grade ++ eight c.writing.grade) b.certificates))))))))

-- the example's register
abbrev pub register : List ℕ
register = encoded book

-- the example vault just opened
abbrev pub example_policy : Policy
example_policy = fixed marks grades book floor

abbrev pub example_state : State
example_state = started book zeros

-- the text of a day at the example vault over a store whose sheets have these bytes
abbrev pub text_from : List (List ℕ) → List ℕ → List ℕ
text_from contents input = ended (line_text (Opened 0)) ++ printed example_policy (started book contents) input

-- the text of a day at the example vault, whose store is of zeros
abbrev pub example_text : List ℕ → List ℕ
example_text = text_from zeros
