use Rattle.std.proofs.Common.{◌≡◌, map, take}
use Rattle.register.specs.Tables.{book_of}
use Rattle.model.specs.Opening.{seat_for}
use Rattle.opening.proofs.making.seats_of.Given as goal

-- the seats so far
abbrev pub invariant-loop-program : goal.invariant-loop-program
invariant-loop-program l = l.seats.items ≡ map (seat_for (book_of l.register).certificates) (take l.program-index (book_of l.register).starts)
