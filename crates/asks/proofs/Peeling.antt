-- The line that is split from a text is the first of its rows, and what follows has the others.
use Rattle.std.proofs.Common.{Bor, Option, ⊎_elim, ◌≡◌, ℕ, suc, ◌+◌, ◌<◌, Bool, true, false, cond, not, eqb, List, [], ◌∷◌, length, take, drop, Some, None, sym, refl, ap, ◌∙◌, one-add, arith, length-drop, MatchOption}
use Rattle.std.proofs.lemmas.List.{drop-drop}
use Rattle.std.proofs.lemmas.Slice.{between_to_end}
use Rattle.std.proofs.lemmas.Option.{MatchOption-at_some}
use Rattle.std.specs.Option.{unwrap_or}
use Rattle.std.specs.List.{PartBy}
use Rattle.std.specs.List.{onto_first}
use Rattle.asks.specs.Rows.{before, rows, split_line}

-- the rows of a text whose first byte is an end or none
by_first : (ended : Bool) (b : ℕ) (text : List ℕ) → let n : ℕ = cond (not ended) (1 + before 10 text) 0 in cond ended ([] ∷ rows text) (onto_first b (rows text)) ≡ take n (b ∷ text) ∷ rows (drop (n + 1) (b ∷ text))
by_first true b text = refl
by_first false b [] = refl
by_first false b (x ∷ text) =
    let n : ℕ = before 10 (x ∷ text) in
    let more : suc (n + 1) ≡ 1 + n + 1 = omega arith in
    ap (onto_first b) (by_first (eqb x 10) x text) ∙ ap (λ k. take (suc n) (b ∷ x ∷ text) ∷ rows (drop k (b ∷ x ∷ text))) more
    ∙ ap (λ k. take k (b ∷ x ∷ text) ∷ rows (drop (1 + n + 1) (b ∷ x ∷ text))) (sym (one-add n))

peels : (text : List ℕ) → MatchOption (split_line text) (rows text ≡ []) (λ x. (rows text ≡ x.0 ∷ rows x.1) × (length x.1 < length text))
peels [] = refl
peels (b ∷ text) = (by_first (eqb b 10) b text, omega (arith, length-drop (before 10 (b ∷ text) + 1) (b ∷ text)))

pub first_row : (text line rest : List ℕ) → split_line text ≡ Some (line, rest) → rows text ≡ line ∷ rows rest
first_row text line rest e = (MatchOption-at_some _ _ (line, rest) e (peels text)).0

split_some : (text : List ℕ) → 0 < length text → split_line text ≡ Some (take (before 10 text) text, drop (before 10 text + 1) text)
split_some [] h = absurd (omega arith)
split_some (b ∷ text) h = refl

-- what follows the byte that ends a line: nothing where the text stops there
pub after_end : (back : Bor (List ℕ)) (found : Option (Bor (List ℕ))) → PartBy (λ x. x.now) back.now 1 (length back.now) found → (unwrap_or found back).now ≡ drop 1 back.now
after_end back None h = nothing back.now (⊎_elim (λ short. short) (λ no. absurd (omega arith)) h.0)
  where
    nothing : (bs : List ℕ) → length bs < 1 → bs ≡ drop 1 bs
    nothing [] short = refl
    nothing (b ∷ bs) short = absurd (omega arith)
after_end back (Some x) h = h.0.2 ∙ between_to_end back.now 1 (length back.now) (omega arith)

-- a text cut before its first byte 10
pub line_cut : (text line back rest : List ℕ) (end : ℕ) → 0 < length text → end ≡ before 10 text → line ≡ take end text → back ≡ drop end text → rest ≡ drop 1 back → Some (line, rest) ≡ split_line text
line_cut text line back rest end some at front tail after = rw (front, after, tail, at, drop-drop) (sym (split_some text some))
