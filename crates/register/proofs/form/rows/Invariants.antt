use Rattle.std.proofs.Common.{◌≡◌, ℕ, ◌<◌, length, get_or}
use Rattle.register.proofs.form.rows.Given as goal

-- the rows so far
abbrev pub invariant-loop-i : goal.invariant-loop-i
invariant-loop-i g l =
    (length l.rows ≡ g.row.N) × ((k : ℕ) (d : _) → k < l.i → goal.F-post g l.row k (get_or l.rows k d))
