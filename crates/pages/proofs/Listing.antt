-- One step of a scan over a page list, and its end.
use Rattle.std.proofs.Common.{◌≡◌, ℕ, ◌+◌, Bool, true, false, not, ◌&&◌, ◌||◌, eqb, List, [], ◌∷◌, drop, ap, ◌∙◌, sym, refl}
use Rattle.std.specs.List.{IsAnyAnswer, enumerate_from, list_any}
use Rattle.std.proofs.lemmas.List.Elements.{contains_decides}
use Rattle.std.proofs.lemmas.List.{drop-drop}
use Rattle.std.proofs.lemmas.Bool.Decides.{Decides-by_or, Decides-eqb, Decides-like, same_from_decides}
use Rattle.pages.specs.Paging.{none_twice, unlisted}

-- whether the number at a place stands in the list again, after that place
abbrev pub again : List ℕ → ℕ × ℕ → Bool
again ns p = not (unlisted (drop (p.0 + 1) ns) p.1)

not_and : (a b : Bool) → (not a || not b) ≡ not (a && b)
not_and true b = refl
not_and false b = refl

-- that it does somewhere is that a number stands twice
again_from : (ns : List ℕ) (i : ℕ) (xs : List ℕ) → drop i ns ≡ xs → list_any (again ns) (enumerate_from i xs) ≡ not (none_twice xs)
again_from ns i [] rest = refl
again_from ns i (x ∷ xs) rest =
    let next : drop (i + 1) ns ≡ xs = sym (drop-drop 1 i ns) ∙ ap (drop 1) rest in
    ap (λ l. not (unlisted l x) || list_any (again ns) (enumerate_from (i + 1) xs)) next
    ∙ ap (λ b. not (unlisted xs x) || b) (again_from ns (i + 1) xs next)
    ∙ not_and (unlisted xs x) (none_twice xs)

pub again_twice : (ns : List ℕ) → list_any (again ns) (enumerate_from 0 ns) ≡ not (none_twice ns)
again_twice ns = again_from ns 0 ns refl

and_not : (a b : Bool) → not (not a && b) ≡ (a || not b)
and_not true b = refl
and_not false b = refl

-- what a look through a list answers
pub found : (ns : List ℕ) (n : ℕ) (r : Bool) → IsAnyAnswer (λ y t. eqb y n ≡ t) ns r → r ≡ not (unlisted ns n)
found ns n r looked =
    same_from_decides r (not (unlisted ns n)) (contains_decides eqb Decides-eqb ns n r looked)
    (Decides-by_or (λ y. eqb n y) (λ y. y ≡ n) (λ xs. not (unlisted xs n)) (λ y. Decides-like (eqb n y) sym sym (Decides-eqb n y)) refl (λ y ys. and_not (eqb n y) (unlisted ys n)) ns)
