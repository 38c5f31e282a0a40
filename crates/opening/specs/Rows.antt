-- The records that an opening keeps, by their numbers.
use Rattle.std.specs.Prelude.{ℕ, [], ◌∷◌, length, Result, nat_le, slice_index_or, slice_set}
use Rattle.refusals.specs.Refusals.{on, checked}
use Rattle.refusals.specs.declared.refusal.Refusal.{Refusal}
use Rattle.refusals.specs.declared.refusal.Refusal.TheVariants.{NoSeat, NoSheet}
use Rattle.model.specs.States.{blank_seat, blank_sheet}
use Rattle.model.specs.declared.seat.Seat.{Seat}
use Rattle.model.specs.declared.sheet.Sheet.{Sheet}
use Rattle.opening.specs.declared.opening.Opening.{Opening}

module _ (o : Opening) where
  -- the record of seat i
  abbrev pub seat_of : ℕ → Result Seat Refusal
  seat_of i = checked (on (nat_le (length o.seats.items) i) NoSeat ∷ []) (slice_index_or o.seats.items i blank_seat)

  -- the label and the certificate of sheet k
  abbrev pub sheet_of : ℕ → Result Sheet Refusal
  sheet_of k = checked (on (nat_le (length o.sheets.items) k) NoSheet ∷ []) (slice_index_or o.sheets.items k blank_sheet)

  -- another record for seat i
  abbrev pub with_seat : ℕ → Seat → Opening
  with_seat i x = record o { seats = record { items = slice_set o.seats.items i x } }
