-- The lines that are left of a text.
use Rattle.std.specs.Prelude.{ℕ, List}
use Rattle.asks.specs.Rows.{rows}
use Rattle.asks.specs.declared.lines.Lines.{Lines}

-- the lines that an iterator has still to give
abbrev pub lines_left : Lines → List (List ℕ)
lines_left lines = rows lines.rest.now
