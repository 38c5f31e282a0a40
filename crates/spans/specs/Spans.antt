-- The spans of sheets that stand one after the other.
use Rattle.std.specs.Prelude.{ℕ, ◌+◌, Bool, true, ◌&&◌, List, [], ◌∷◌, map, ◌==◌}
use Rattle.spans.specs.declared.spans.span.Span.{Span}

-- the size of each span
abbrev pub sizes_in : List Span → List ℕ
sizes_in spans = map (λ (s : Span). s.size) spans

-- the first span starts here, and each other where what the one before it takes ends
abbrev pub placed : (ℕ → ℕ) → ℕ → List Span → Bool
placed room here [] = true
placed room here (s ∷ spans) = s.start == here && placed room (here + room s.size) spans
