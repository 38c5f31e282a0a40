-- What is known of sizes that were not refused.
use Rattle.std.proofs.Common.{◌≡◌, ℕ, true, not, ◌||◌, eqb, List, Ok, ⊎_elim, arith}
use Rattle.std.proofs.lemmas.Bool.{cases_Bool, not-false, or_parts}
use Rattle.spans.specs.Limits.{within_limits}
use Rattle.spans.specs.Sizes.{limited}

pub limited_ok : (u : ℕ) (zs ws : List ℕ) → Ok ws ≡ limited u zs → (within_limits zs ≡ true) × (ws ≡ zs)
limited_ok u zs ws is =
    ⊎_elim
    (λ refused. let e = rw refused at is in let z : ◌≡◌ {A = ℕ} 0 1 = cc in absurd (omega arith))
    (λ passed. let e = rw passed at is in (not-false (within_limits zs) (or_parts (eqb u 0) (not (within_limits zs)) passed).1, cc))
    (cases_Bool (eqb u 0 || not (within_limits zs)))
