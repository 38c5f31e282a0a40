-- Laws of sheets that are cut from one memory, one after the other.
use Rattle.std.proofs.Common.{◌≡◌, ℕ, zero, suc, ◌+◌, ◌<◌, ◌≤◌, List, [], ◌∷◌, length, get_or, take, drop, set, sum_by, sym, refl, ap, ◌∙◌, zero-add, arith, length-drop, length-take}
use Rattle.std.proofs.lemmas.List.{drop-drop}
use Rattle.std.proofs.lemmas.List.Sums.{sum_by-cons, sum_by_more, sum_by-take-le}
use Rattle.stores.specs.Cuts.{cut}
use Rattle.stores.specs.Splices.{spliced}
use Rattle.stores.proofs.Splicing.{take_splice_in, drop_splice_in, take_splice_past, drop_splice_past}

module _ (room : ℕ → ℕ) where
  pub length_cut : (zs m : List ℕ) → length (cut room zs m) ≡ length zs
  length_cut [] m = refl
  length_cut (z ∷ zs) m = ap suc (length_cut zs (drop (room z) m))

  -- what stands in the sheet k: as many bytes as its size, after those that the sheets before it take
  pub cut_at : (zs m : List ℕ) (k : ℕ) → get_or (cut room zs m) k [] ≡ take (get_or zs k 0) (drop (sum_by room (take k zs)) m)
  cut_at [] m k = refl
  cut_at (z ∷ zs) m zero = refl
  cut_at (z ∷ zs) m (suc k) =
      cut_at zs (drop (room z) m) k
      ∙ ap (take (get_or zs k 0)) (drop-drop (sum_by room (take k zs)) (room z) m ∙ ap (λ n. drop n m) (sym (sum_by-cons room z (take k zs))))

  -- what a sheet takes ends at or before the end of them all
  pub end_within : (zs : List ℕ) (k : ℕ) → k < length zs → sum_by room (take k zs) + room (get_or zs k 0) ≤ sum_by room zs
  end_within zs k below = omega (arith, sum_by_more room zs k 0 below, sum_by-take-le room zs (k + 1))

  module _ (wide : (z : ℕ) → z ≤ room z) where
    -- the sheets lie inside the memory, so each has its size
    pub size_cut : (zs m : List ℕ) (k : ℕ) → sum_by room zs ≤ length m → length (get_or (cut room zs m) k []) ≡ get_or zs k 0
    size_cut [] m k inside = refl
    size_cut (z ∷ zs) m zero inside =
        let e = sum_by-cons room z zs in let h : z ≤ length m = omega (arith, wide z) in simp length-take (omega arith)
    size_cut (z ∷ zs) m (suc k) inside =
        let e = sum_by-cons room z zs in size_cut zs (drop (room z) m) k (simp length-drop (omega arith))

    -- a write into the sheet k is a write at its place in the memory, and no other sheet changes
    pub cut_splice : (zs m : List ℕ) (k p : ℕ) (bs : List ℕ) → sum_by room zs ≤ length m → k < length zs → p + length bs ≤ get_or zs k 0 → cut room zs (spliced m (sum_by room (take k zs) + p) bs) ≡ set (cut room zs m) k (spliced (get_or (cut room zs m) k []) p bs)
    cut_splice [] m k p bs inside below fits = refl
    cut_splice (z ∷ zs) m zero p bs inside below fits =
        let e = sum_by-cons room z zs in
        let h : z ≤ length m = omega (arith, wide z) in
        let i : p + length bs ≤ length m = omega arith in
        let f : p + length bs ≤ room z = omega (arith, wide z) in
        rw (zero-add p, take_splice_in m p bs z fits h, drop_splice_in m p bs (room z) f i)
    cut_splice (z ∷ zs) m (suc k) p bs inside below fits =
        let e = sum_by-cons room z zs in
        let b : k < length zs = omega arith in
        let u = end_within zs k b in
        let v = wide (get_or zs k 0) in
        let at : sum_by room (take (suc k) (z ∷ zs)) + p ≡ room z + (sum_by room (take k zs) + p) = omega (arith, sum_by-cons room z (take k zs)) in
        let front = take_splice_past m (room z + (sum_by room (take k zs) + p)) bs z (omega (arith, wide z)) (omega arith) in
        let back = drop_splice_past m (sum_by room (take k zs) + p) bs (room z) (omega arith) in
        let more = cut_splice zs (drop (room z) m) k p bs (simp length-drop (omega arith)) b fits in
        ap (λ n. cut room (z ∷ zs) (spliced m n bs)) at ∙ rw (front, back, more)
