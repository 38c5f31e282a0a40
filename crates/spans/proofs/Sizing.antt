-- The sizes of sheets that are not too large, one by one.
use Rattle.std.proofs.Common.{◌≡◌, ℕ, zero, suc, ◌≤◌, true, List, [], ◌∷◌, slice_index, arith}
use Rattle.std.proofs.lemmas.Bool.{and_parts, leb-true}
use Rattle.spans.specs.Limits.{small}

-- each is at most the limit, and past the end there is 0
pub small_index : (zs : List ℕ) (k : ℕ) → small zs ≡ true → slice_index zs k ≤ 4096
small_index [] k e = omega arith
small_index (z ∷ zs) zero e = leb-true _ _ (and_parts _ _ e).0
small_index (z ∷ zs) (suc k) e = small_index zs k (and_parts _ _ e).1
