use Rattle.std.proofs.Common.{◌≡◌, map}
use Rattle.std.specs.List.{range_with_len}
use Rattle.register.specs.Tables.{book_of}
use Rattle.model.specs.Opening.{sheet_for}
use Rattle.opening.proofs.making.sheets_of.Given as goal

-- the sheets so far
abbrev pub invariant-loop-k : goal.invariant-loop-k
invariant-loop-k l = l.sheets.items ≡ map (sheet_for (book_of l.register)) (range_with_len 0 l.k)
