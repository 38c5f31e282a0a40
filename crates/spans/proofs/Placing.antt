-- Where each of the spans starts that stand one after the other, and one span more.
use Rattle.std.proofs.Common.{◌≡◌, ℕ, zero, suc, ◌+◌, ◌<◌, true, eqb, List, [], ◌∷◌, ◌++◌, length, get_or, take, sum_by, sym, refl, ◌∙◌, add-zero, arith}
use Rattle.std.proofs.lemmas.List.Sums.{sum_by-cons}
use Rattle.std.proofs.lemmas.Bool.{and_from, and_parts, eq-eqb, eqb-true}
use Rattle.spans.specs.Spans.{placed, sizes_in}
use Rattle.spans.specs.declared.spans.span.Span.{Span}

module _ (room : ℕ → ℕ) where
  -- a span starts after as many bytes as those before it take
  pub placed_at : (here : ℕ) (spans : List Span) (k : ℕ) (d : Span) → placed room here spans ≡ true → k < length spans → (get_or spans k d).start ≡ here + sum_by room (sizes_in (take k spans))
  placed_at here [] k d packed below = absurd (omega arith)
  placed_at here (s ∷ spans) zero d packed below = eqb-true s.start here (and_parts _ _ packed).0 ∙ sym (add-zero here)
  placed_at here (s ∷ spans) (suc k) d packed below =
      let e = placed_at (here + room s.size) spans k d (and_parts (eqb s.start here) _ packed).1 (omega arith) in
      omega (arith, sum_by-cons room s.size (sizes_in (take k spans)))

  -- one more span, that starts where what the others take ends
  pub placed_push : (here : ℕ) (spans : List Span) (y : Span) → placed room here spans ≡ true → y.start ≡ here + sum_by room (sizes_in spans) → placed room here (spans ++ y ∷ []) ≡ true
  placed_push here [] y packed next = and_from _ _ (eq-eqb y.start here (next ∙ add-zero here)) refl
  placed_push here (s ∷ spans) y packed next =
      let parts = and_parts (eqb s.start here) _ packed in
      and_from _ _ parts.0 (placed_push (here + room s.size) spans y parts.1 (omega (arith, sum_by-cons room s.size (sizes_in spans))))
