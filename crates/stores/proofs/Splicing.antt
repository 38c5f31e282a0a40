-- The front and the rest of a list that others are put into.
use Rattle.std.proofs.Common.{◌≡◌, ℕ, ◌+◌, ◌-◌, ◌≤◌, List, ◌++◌, length, take, drop, ap, ◌∙◌, arith, rules, length-append, length-drop, length-take, Vec}
use borrow.Rule.Slice.PartMut.{put_mid}
use Rattle.std.specs.Vec.{with_items}
use Rattle.std.proofs.lemmas.List.{same_lists, places, with_items_is}
use Rattle.stores.specs.Splices.{spliced}

module _ (m : List ℕ) (p : ℕ) (bs : List ℕ) (z : ℕ) where
  -- a write inside the front z bytes
  pub take_splice_in : p + length bs ≤ z → z ≤ length m → take z (spliced m p bs) ≡ spliced (take z m) p bs
  take_splice_in inside within = same_lists _ _ (search (rules, places)) (λ k d h. grind (arith, places))

  pub drop_splice_in : p + length bs ≤ z → p + length bs ≤ length m → drop z (spliced m p bs) ≡ drop z m
  drop_splice_in inside within = same_lists _ _ (search (rules, places)) (λ k d h. grind (arith, places))

  -- a write after them
  pub take_splice_past : z ≤ p → p + length bs ≤ length m → take z (spliced m p bs) ≡ take z m
  take_splice_past past within = same_lists _ _ (search (rules, places)) (λ k d h. grind (arith, places))

  pub drop_splice_past : z + p + length bs ≤ length m → drop z (spliced m (z + p) bs) ≡ spliced (drop z m) p bs
  drop_splice_past within = same_lists _ _ (search (rules, places)) (λ k d h. grind (arith, places))

-- a vector, a stretch of which was lent and written
module _ {Z : Type 0} (v : Vec ℕ Z) (lent : List ℕ) (same : lent ≡ v.items) (at end : ℕ) (ys bs : List ℕ) (written : ys ≡ bs) (as_many : end ≡ at + length bs) (within : at + length bs ≤ v.len) where
  put : put_mid at (end - at) lent ys ≡ spliced v.items at bs
  put =
      let n : end - at ≡ length bs = omega arith in
      ap (λ xs. put_mid at (end - at) xs ys) same ∙ ap (put_mid at (end - at) v.items) written ∙ ap (λ n. take at v.items ++ (bs ++ drop n (drop at v.items))) n

  pub put_in : (with_items v (put_mid at (end - at) lent ys)).items ≡ spliced v.items at bs
  put_in =
      let long : length (put_mid at (end - at) lent ys) ≡ v.len =
      ap length put ∙ simp (length-append, length-take, length-drop) (omega (arith, v.ok.0)) in
      with_items_is v (put_mid at (end - at) lent ys) long ∙ put
