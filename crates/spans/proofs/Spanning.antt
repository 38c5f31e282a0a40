-- What the invariant of a table of spans says of its rows.
use Rattle.std.proofs.Common.{◌≡◌, ℕ, ◌+◌, ◌<◌, ◌≤◌, [], ◌∷◌, length, get_or, ltb, take, sum_by, sym, refl, ◌∙◌, arith}
use Rattle.std.proofs.lemmas.List.{get_or-map, length-map, length-take-le, take-map}
use Rattle.std.proofs.lemmas.Bool.{lt-leb}
use Rattle.refusals.specs.Refusals.{checked, on}
use Rattle.refusals.specs.declared.refusal.Refusal.TheVariants.{PastEnd}
use Rattle.spans.specs.Bounds.{bound_tests}
use Rattle.spans.specs.Rooms.{room}
use Rattle.spans.specs.Sizes.{sizes_of}
use Rattle.spans.specs.declared.spans.Spans.{Spans}
use Rattle.spans.specs.declared.spans.span.Span.{Span}
use Rattle.spans.proofs.Placing.{placed_at}

module _ {u : ℕ} (s : Spans u) where
  long : s.count ≤ length s.rows
  long = omega arith

  pub used : length (take s.count s.rows) ≡ s.count
  used = length-take-le s.count s.rows long

  pub many : length (sizes_of s) ≡ s.count
  many = length-map (take s.count s.rows) (λ (x : Span). x.size) ∙ used

  module _ (k : ℕ) (d : Span) (below : k < length (take s.count s.rows)) where
    pub size_in : get_or (sizes_of s) k 0 ≡ (get_or (take s.count s.rows) k d).size
    size_in = get_or-map (λ (x : Span). x.size) (take s.count s.rows) k d 0 below

    pub start_in : (get_or (take s.count s.rows) k d).start ≡ sum_by (room u) (take k (sizes_of s))
    start_in =
        placed_at (room u) 0 (take s.count s.rows) k d s.packed below
        ∙ simp (take-map (λ (x : Span). x.size) k (take s.count s.rows)) (omega arith)

  -- what a call comes to at the span of a sheet
  pub reached : (k p b : ℕ) (x : Span) → k < length (take s.count s.rows) → x ≡ get_or (take s.count s.rows) k x → checked (on (ltb x.size (p + b)) PastEnd ∷ []) (x.start + p) ≡ checked (bound_tests (length (sizes_of s)) (get_or (sizes_of s) k 0) k p b) (sum_by (room u) (take k (sizes_of s)) + p)
  reached k p b x there row =
      rw (many, lt-leb s.count k (omega (arith, used)), size_in k x there, sym (start_in k x there), sym row) refl
