-- What an opening tests, in order, and what an accepted one leaves.
use Rattle.std.specs.Prelude.{ℕ, Bool, true, false, not, ◌&&◌, ◌||◌, List, [], ◌∷◌, map, length, Result, ◌==◌, nat_lt, slice_index_or}
use Rattle.std.specs.List.{range_with_len, list_all}
use Rattle.refusals.specs.Refusals.{Test, on, checked}
use Rattle.refusals.specs.declared.refusal.Refusal.{Refusal}
use Rattle.refusals.specs.declared.refusal.Refusal.TheVariants.{AlreadyOpen, RegisterLength, Counts, Numbers, NoClass, Range, UnderFloor, OtherStore}
use Rattle.register.specs.Certificates.{certificate_in, blank_entry}
use Rattle.register.specs.Layout.{counts_of, within_limits, whole_length, decoded}
use Rattle.register.specs.Numbers.{numbers_sound}
use Rattle.register.specs.Tables.{Book}
use Rattle.register.specs.declared.label.Label.{Label}
use Rattle.register.specs.declared.entry.Entry.{Entry}
use Rattle.register.specs.declared.certificate.Certificate.{Certificate}
use Rattle.model.specs.Orders.{Order}
use Rattle.model.specs.States.{Policy, State, held}
use Rattle.model.specs.declared.sheet.Sheet.{Sheet}
use Rattle.model.specs.declared.seat.Seat.{Seat}

module _ (marks grades : Order) where
  -- the mark is a class of the marks, the grade one of the grades
  abbrev pub classed : Label → Bool
  classed l = marks.class l.mark && grades.class l.grade

  -- the label of a sheet has classes
  abbrev pub entry_classed : Entry → Bool
  entry_classed e = classed e.label

  -- both labels of a certificate have classes
  abbrev pub certificate_classed : Certificate → Bool
  certificate_classed c = classed c.reading && classed c.writing

  -- every mark, every grade and the floor is a class of its order
  abbrev pub all_classed : Book → ℕ → Bool
  all_classed b floor = list_all entry_classed b.entries && list_all certificate_classed b.certificates && grades.class floor

  -- the writing mark is at or below the reading mark, the reading grade at or below the writing grade
  abbrev pub in_range : Certificate → Bool
  in_range c = marks.below c.writing.mark c.reading.mark && grades.below c.reading.grade c.writing.grade

  -- ranged in marks: the reading mark is not at or below the writing mark
  abbrev pub ranged : Certificate → Bool
  ranged c = not (marks.below c.reading.mark c.writing.mark)

  -- a certificate ranged in marks has a writing grade at or above the floor
  abbrev pub floored : ℕ → Certificate → Bool
  floored floor c = not (ranged c) || grades.below floor c.writing.grade

-- the store has the sheets of the register, in their sizes
abbrev pub same_sizes : List (List ℕ) → List Entry → Bool
same_sizes [] [] = true
same_sizes [] (e ∷ es) = false
same_sizes (c ∷ cs) [] = false
same_sizes (c ∷ cs) (e ∷ es) = length c == e.size && same_sizes cs es

module _ (marks grades : Order) (bs : List ℕ) (floor : ℕ) (contents : List (List ℕ)) where
  -- each test goes over the whole register before the next begins
  abbrev pub opening_tests : (already : Bool) → List Test
  opening_tests already =
      on already AlreadyOpen
      ∷ on (nat_lt (length bs) 6) RegisterLength
      ∷ on (not (within_limits (counts_of bs))) Counts
      ∷ on (not (length bs == whole_length (counts_of bs))) RegisterLength
      ∷ on (not (numbers_sound (decoded bs))) Numbers
      ∷ on (not (all_classed marks grades (decoded bs) floor)) NoClass
      ∷ on (not (list_all (in_range marks grades) (decoded bs).certificates)) Range
      ∷ on (not (list_all (floored marks grades floor) (decoded bs).certificates)) UnderFloor
      ∷ on (not (same_sizes contents (decoded bs).entries)) OtherStore ∷ []

  -- what the register says, or the first refusal that fits
  abbrev pub opening : (already : Bool) → Result Book Refusal
  opening already = checked (opening_tests already) (decoded bs)

-- a seat under the certificate of its starting program, running it, with slip 0
abbrev pub seat_for : List Certificate → ℕ → Seat
seat_for cs program = record { certificate = held (certificate_in cs program); program = program; slip = 0 }

module _ (b : Book) where
  -- sheet k under its label, with the certificate of program k
  abbrev pub sheet_for : ℕ → Sheet
  sheet_for k = record { label = (slice_index_or b.entries k blank_entry).label; certificate = certificate_in b.certificates k }

  -- each sheet, in number order
  abbrev pub first_sheets : List Sheet
  first_sheets = map sheet_for (range_with_len 0 (length b.entries))

  -- each seat as it starts
  abbrev pub first_seats : List Seat
  first_seats = map (seat_for b.certificates) b.starts

-- what an accepted opening fixes
abbrev pub fixed : Order → Order → Book → ℕ → Policy
fixed marks grades b floor = record { marks = marks; grades = grades; is_open = true; floor = floor; sheets = first_sheets b }

-- the seats and sheets of a vault just opened; the store keeps its bytes
abbrev pub started : Book → List (List ℕ) → State
started b contents = record { seats = first_seats b; contents = contents }
