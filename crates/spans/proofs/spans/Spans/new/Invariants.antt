use Rattle.std.proofs.Common.{◌≡◌, ◌*◌, ◌≤◌, true, length, take, sum_by}
use Rattle.spans.specs.Rooms.{room}
use Rattle.spans.specs.Spans.{placed, sizes_in}
use Rattle.spans.proofs.spans.Spans.new.Given as goal

-- the spans so far, one after the other, and what they take
abbrev pub invariant-loop-i : goal.invariant-loop-i
invariant-loop-i g l =
    (sizes_in (take l.i l.rows) ≡ take l.i l.sizes) × (placed (room g.row.UNIT) 0 (take l.i l.rows) ≡ true)
    × (l.end ≡ sum_by (room g.row.UNIT) (take l.i l.sizes)) × (l.end ≤ 69631 * l.i) × (length l.rows ≡ 64)
