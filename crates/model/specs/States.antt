-- What an opening fixes, and what calls change.
use Rattle.std.specs.Prelude.{ℕ, Bool, List, [], map, length, Some, None, Option, slice_index_or, slice_set}
use Rattle.register.specs.Certificates.{blank_label, blank_certificate}
use Rattle.register.specs.declared.label.Label.{Label}
use Rattle.register.specs.declared.certificate.Certificate.{Certificate}
use Rattle.model.specs.Orders.{Order}
use Rattle.model.specs.declared.sheet.Sheet.{Sheet}
use Rattle.model.specs.declared.seat.Seat.{Seat}

-- what an opening fixes: that the vault is open, the floor, and each sheet's label and certificate, with the two orders
pub record Policy : Type 0 where
  pub marks : Order
  pub grades : Order
  pub is_open : Bool
  pub floor : ℕ
  pub sheets : List Sheet

-- what calls change: the seats' records and the sheets' bytes
pub record State : Type 0 where
  pub seats : List Seat
  pub contents : List (List ℕ)

-- what stands where there is no sheet, and where there is no seat
abbrev pub blank_sheet : Sheet
blank_sheet = record { label = blank_label; certificate = None }

abbrev pub blank_seat : Seat
blank_seat = record { certificate = blank_certificate; program = 0; slip = 0 }

-- a certificate that is there
abbrev pub held : Option Certificate → Certificate
held None = blank_certificate
held (Some c) = c

module _ (p : Policy) where
  -- the mark and the grade of sheet k
  abbrev pub label_of : ℕ → Label
  label_of k = (slice_index_or p.sheets k blank_sheet).label

  -- the certificate of sheet k, where it is a certified program
  abbrev pub certificate_of : ℕ → Option Certificate
  certificate_of k = (slice_index_or p.sheets k blank_sheet).certificate

module _ (s : State) where
  -- the record of seat i
  abbrev pub seat_at : ℕ → Seat
  seat_at i = slice_index_or s.seats i blank_seat

  -- the bytes of sheet k
  abbrev pub bytes_of : ℕ → List ℕ
  bytes_of k = slice_index_or s.contents k []

  -- how many bytes each sheet has
  abbrev pub sizes_of : List ℕ
  sizes_of = map length s.contents

  -- another record for seat i
  abbrev pub with_seat : ℕ → Seat → State
  with_seat i x = record { seats = slice_set s.seats i x; contents = s.contents }

  -- other bytes for sheet k
  abbrev pub with_bytes : ℕ → List ℕ → State
  with_bytes k bytes = record { seats = s.seats; contents = slice_set s.contents k bytes }
