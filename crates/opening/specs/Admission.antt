-- What an opening keeps.
use Rattle.std.specs.Prelude.{ℕ, List, Result}
use Rattle.std.specs.Result.{result_map_both}
use Rattle.refusals.specs.declared.refusal.Refusal.{Refusal}
use Rattle.register.specs.Tables.{Book}
use Rattle.model.specs.Opening.{first_sheets, first_seats}
use Rattle.model.specs.declared.sheet.Sheet.{Sheet}
use Rattle.model.specs.declared.seat.Seat.{Seat}
use Rattle.opening.specs.declared.opening.Opening.{Opening}

-- the floor, the sheets and the seats
pub record Made : Type 0 where
  pub floor : ℕ
  pub sheets : List Sheet
  pub seats : List Seat

-- those of a floor and what a register says
abbrev pub made : ℕ → Result Book Refusal → Result Made Refusal
made floor = result_map_both (λ b. record { floor = floor; sheets = first_sheets b; seats = first_seats b }) (λ e. e)

-- those that an opening keeps
abbrev pub kept : Opening → Made
kept o = record { floor = o.floor; sheets = o.sheets.items; seats = o.seats.items }

-- those of an accepted opening, or its refusal
abbrev pub admitted : Result Opening Refusal → Result Made Refusal
admitted = result_map_both kept (λ e. e)
