-- One write after another, a write into one of two lists that stand end to end, and a write as a part of a list sees it.
use Rattle.std.proofs.Common.{◌≡◌, ℕ, ◌+◌, ◌≤◌, List, ◌++◌, length, take, drop, sym, ap, ◌∙◌, append_assoc, arith, length-append, length-drop, rules}
use Rattle.std.proofs.lemmas.List.{drop_at, drop-drop, drop-take, length-take-le, places, same_lists, take-append-drop, take_at, take-take}
use Rattle.stores.specs.Splices.{spliced}
use Rattle.stores.proofs.Splicing.{drop_splice_in, drop_splice_past, take_splice_in, take_splice_past}

-- two stretches, one after the other
pub take_both : (xs : List ℕ) (i n : ℕ) → take i xs ++ take n (drop i xs) ≡ take (i + n) xs
take_both xs i n =
    sym
    (sym (take-append-drop i (take (i + n) xs))
    ∙ ap (λ l. l ++ drop i (take (i + n) xs)) (take-take i (i + n) xs (omega arith))
    ∙ ap (λ l. take i xs ++ l) (drop-take i n xs))

module _ (xs : List ℕ) (at : ℕ) (cs bs : List ℕ) (within : at ≤ length xs) where
  long : length (take at xs ++ cs) ≡ at + length cs
  long = length-append (take at xs) cs ∙ ap (λ n. n + length cs) (length-take-le at xs within)

  next : spliced (spliced xs at cs) (at + length cs) bs ≡ spliced xs at (cs ++ bs)
  next =
      let rest = drop (length cs) (drop at xs) in
      ap (λ l. spliced l (at + length cs) bs) (sym (append_assoc (take at xs) cs rest))
      ∙ ap (λ l. l ++ (bs ++ drop (length bs) (drop (at + length cs) ((take at xs ++ cs) ++ rest)))) (take_at (take at xs ++ cs) rest (at + length cs) long)
      ∙ ap (λ l. (take at xs ++ cs) ++ (bs ++ drop (length bs) l)) (drop_at (take at xs ++ cs) rest (at + length cs) long)
      ∙ append_assoc (take at xs) cs (bs ++ drop (length bs) rest)
      ∙ ap (λ l. take at xs ++ l) (sym (append_assoc cs bs (drop (length bs) rest)))
      ∙ ap (λ l. take at xs ++ ((cs ++ bs) ++ l)) (drop-drop (length bs) (length cs) (drop at xs) ∙ ap (λ n. drop n (drop at xs)) (sym (length-append cs bs)))

module _ (xs : List ℕ) (at : ℕ) (bs : List ℕ) where
  -- the next n bytes, after the first i
  pub splice_more : (i n : ℕ) → i + n ≤ length bs → at ≤ length xs → spliced (spliced xs at (take i bs)) (at + i) (take n (drop i bs)) ≡ spliced xs at (take (i + n) bs)
  splice_more i n long within =
      ap (λ j. spliced (spliced xs at (take i bs)) (at + j) (take n (drop i bs))) (sym (length-take-le i bs (omega arith)))
      ∙ next xs at (take i bs) (take n (drop i bs)) within
      ∙ ap (spliced xs at) (take_both bs i n)

  pub splice_left : (ys : List ℕ) → at + length bs ≤ length xs → spliced (xs ++ ys) at bs ≡ spliced xs at bs ++ ys
  splice_left ys within = same_lists _ _ (search (rules, places)) (λ k d h. grind (arith, places))

  pub splice_right : (ys : List ℕ) (n : ℕ) → length ys ≡ n → at + length bs ≤ length xs → spliced (ys ++ xs) (n + at) bs ≡ ys ++ spliced xs at bs
  splice_right ys n long within = same_lists _ _ (search (rules, places)) (λ k d h. grind (arith, places))

-- a part of w elements from b on, of a list into which a write is made
module _ (xs : List ℕ) (b w : ℕ) where
  pub part_part : (r n : ℕ) → r + n ≤ w → b + w ≤ length xs → take n (drop r (take w (drop b xs))) ≡ take n (drop (b + r) xs)
  part_part r n inside within = same_lists _ _ (search (rules, places)) (λ k d h. grind (arith, places))

  module _ (at : ℕ) (bs : List ℕ) (within : at + length bs ≤ length xs) where
    pub part_before : b + w ≤ at → take w (drop b (spliced xs at bs)) ≡ take w (drop b xs)
    part_before before =
        sym (drop-take b w (spliced xs at bs)) ∙ ap (drop b) (take_splice_past xs at bs (b + w) before within) ∙ drop-take b w xs

    pub part_after : at + length bs ≤ b → take w (drop b (spliced xs at bs)) ≡ take w (drop b xs)
    part_after after = ap (take w) (drop_splice_in xs at bs b after within)

  pub part_in : (r : ℕ) (bs : List ℕ) → r + length bs ≤ w → b + w ≤ length xs → take w (drop b (spliced xs (b + r) bs)) ≡ spliced (take w (drop b xs)) r bs
  part_in r bs inside within =
      ap (take w) (drop_splice_past xs r bs b (omega arith)) ∙ take_splice_in (drop b xs) r bs w inside (simp length-drop (omega arith))
