-- Where each number of a register stands, and what its bytes say. n, q and m are the three counts:
--
--   from                  what                                                       bytes
--   0                     n, the count of sheets, 1 to 64                            2
--   2                     q, the count of certificates, 1 to 32                      2
--   4                     m, the count of seats, 1 to 32                             2
--   6                     the size of each sheet                                     4 n
--   6 + 4n                the program number of each certificate                     2 q
--   6 + 4n + 2q           the starting number of each seat                           2 m
--   6 + 4n + 2q + 2m      the marks: one of each sheet, then the reading and         8 (n + 2q)
--                         the writing mark of each certificate
--   6 + 12n + 18q + 2m    the grades, in the same places                             8 (n + 2q)
--   6 + 20n + 34q + 2m    the end
use Rattle.std.specs.Prelude.{ℕ, ◌+◌, ◌*◌, Bool, not, ◌&&◌, List, [], ◌∷◌, map, length, Ok, Err, Result, ◌==◌, nat_le, nat_lt}
use Rattle.std.specs.List.{range_with_len}
use Rattle.refusals.specs.Refusals.{Test, on, checked}
use Rattle.refusals.specs.declared.refusal.Refusal.{Refusal}
use Rattle.refusals.specs.declared.refusal.Refusal.TheVariants.{RegisterLength, Counts}
use Rattle.register.specs.Fields.{two_at, four_at, eight_at}
use Rattle.register.specs.Tables.{Book, book_of}
use Rattle.register.specs.declared.label.Label.{Label}
use Rattle.register.specs.declared.entry.Entry.{Entry}
use Rattle.register.specs.declared.certificate.Certificate.{Certificate}
use Rattle.register.specs.declared.layout.Layout.{Layout}
use Rattle.register.specs.declared.tables.Register.{Register}

-- the counts of sheets, certificates and seats that a register begins with
abbrev pub counts_of : List ℕ → Layout
counts_of bs = record { sheets = two_at bs 0; certificates = two_at bs 2; seats = two_at bs 4 }

-- the sizes come right after the counts
abbrev pub sizes_from : ℕ
sizes_from = 6

module _ (l : Layout) where
  -- then the program numbers
  abbrev pub programs_from : ℕ
  programs_from = sizes_from + 4 * l.sheets

  -- then the starting numbers
  abbrev pub starts_from : ℕ
  starts_from = programs_from + 2 * l.certificates

  -- then the marks
  abbrev pub marks_from : ℕ
  marks_from = starts_from + 2 * l.seats

  -- one mark for each sheet, then the reading and the writing mark of each certificate; and as many grades
  abbrev pub label_count : ℕ
  label_count = l.sheets + 2 * l.certificates

  -- then the grades
  abbrev pub grades_from : ℕ
  grades_from = marks_from + 8 * label_count

  -- the bytes of a register with these counts
  abbrev pub whole_length : ℕ
  whole_length = 6 + 20 * l.sheets + 34 * l.certificates + 2 * l.seats

  -- 1 to 64 sheets, 1 to 32 certificates, 1 to 32 seats
  abbrev pub within_limits : Bool
  within_limits =
      nat_le 1 l.sheets && nat_le l.sheets 64 && nat_le 1 l.certificates && nat_le l.certificates 32 && nat_le 1 l.seats && nat_le l.seats 32

  module _ (bs : List ℕ) where
    -- the mark and the grade at the same place i
    abbrev pub label_at : ℕ → Label
    label_at i = record { mark = eight_at bs (marks_from + 8 * i); grade = eight_at bs (grades_from + 8 * i) }

    -- the size and the label of sheet k
    abbrev pub entry_at : ℕ → Entry
    entry_at k = record { size = four_at bs (sizes_from + 4 * k); label = label_at k }

    -- the program number of certificate j, with its reading and its writing label
    abbrev pub certificate_at : ℕ → Certificate
    certificate_at j = record {
      program = two_at bs (programs_from + 2 * j);
      reading = label_at (l.sheets + 2 * j);
      writing = label_at (l.sheets + 2 * j + 1);
    }

    -- the program that seat i starts with
    abbrev pub start_at : ℕ → ℕ
    start_at i = two_at bs (starts_from + 2 * i)

-- what the bytes say
abbrev pub decoded : List ℕ → Book
decoded bs = let l = counts_of bs in record {
  entries = map (entry_at l bs) (range_with_len 0 l.sheets);
  certificates = map (certificate_at l bs) (range_with_len 0 l.certificates);
  starts = map (start_at l bs) (range_with_len 0 l.seats);
}

-- under six bytes, a count outside its limits, not the length that the counts ask for
abbrev pub form_tests : List ℕ → List Test
form_tests bs =
    on (nat_lt (length bs) 6) RegisterLength
    ∷ on (not (within_limits (counts_of bs))) Counts
    ∷ on (not (length bs == whole_length (counts_of bs))) RegisterLength ∷ []

-- the first of these that fits refuses; where none does, the answer is what the bytes say
abbrev pub reading : List ℕ → Result Book Refusal
reading bs = checked (form_tests bs) (decoded bs)

-- an answer with the register as the book that it holds
abbrev pub listed : Result Register Refusal → Result Book Refusal
listed (Ok r) = Ok (book_of r)
listed (Err e) = Err e
