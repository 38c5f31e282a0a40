-- The sizes of the sheets that a table of spans is of, and which sizes are refused.
use Rattle.std.specs.Prelude.{ℕ, not, ◌||◌, List, [], ◌∷◌, take, Result, ◌==◌}
use Rattle.refusals.specs.Refusals.{checked, on}
use Rattle.refusals.specs.declared.refusal.Refusal.{Refusal}
use Rattle.refusals.specs.declared.refusal.Refusal.TheVariants.{StoreLimit}
use Rattle.spans.specs.Limits.{within_limits}
use Rattle.spans.specs.Spans.{sizes_in}
use Rattle.spans.specs.declared.spans.Spans.{Spans}

-- the sizes of the sheets, in number order
abbrev pub sizes_of : {u : ℕ} → Spans u → List ℕ
sizes_of s = sizes_in (take s.count s.rows)

-- these sizes; refused where they pass a limit, and where a unit has no bytes
abbrev pub limited : ℕ → List ℕ → Result (List ℕ) Refusal
limited u zs = checked (on (u == 0 || not (within_limits zs)) StoreLimit ∷ []) zs
