-- A store's sizes beside the sheets of a register.
use Rattle.std.proofs.Common.{◌≡◌, ℕ, suc, ◌+◌, ◌<◌, false, ◌&&◌, nat_eq, List, [], ◌∷◌, length, get_or, sym, refl, ap, ◌∙◌, arith}
use Rattle.std.proofs.Math.Bool.{and-false}
use Rattle.std.specs.List.{range_with_len, list_all, zip}
use Rattle.register.specs.declared.entry.Entry.{Entry}
use Rattle.model.specs.Opening.{same_sizes}

-- as many sheets as entries, compared one after the other; f tells the size of a sheet
pub sizes_zip : (f : ℕ → ℕ) (cs : List (List ℕ)) (es : List Entry) (from : ℕ) → length cs ≡ length es → ((k : ℕ) → k < length cs → f (from + k) ≡ length (get_or cs k [])) →
    list_all (λ p. nat_eq (f p.0) p.1.size) (zip (range_with_len from (length es)) es) ≡ same_sizes cs es
sizes_zip f [] [] from n h = refl
sizes_zip f [] (e ∷ es) from n h = absurd (omega (arith, n))
sizes_zip f (c ∷ cs) [] from n h = absurd (omega (arith, n))
sizes_zip f (c ∷ cs) (e ∷ es) from n h =
    let here : f from ≡ length c = ap f (omega arith) ∙ h 0 (omega arith) in
    let rest = sizes_zip f cs es (from + 1) (omega (arith, n)) (λ k l. ap f (omega arith) ∙ h (suc k) (omega arith)) in
    ap (λ m. nat_eq m e.size && list_all (λ p. nat_eq (f p.0) p.1.size) (zip (range_with_len (from + 1) (length es)) es)) here ∙ ap (λ b. nat_eq (length c) e.size && b) rest

-- another count differs
pub other_count : (cs : List (List ℕ)) (es : List Entry) → (length cs ≡ length es → ⊥) → false ≡ same_sizes cs es
other_count [] [] ne = absurd (ne refl)
other_count [] (e ∷ es) ne = refl
other_count (c ∷ cs) [] ne = refl
other_count (c ∷ cs) (e ∷ es) ne = sym (and-false (nat_eq (length c) e.size)) ∙ ap (λ b. nat_eq (length c) e.size && b) (other_count cs es (λ q. ne (ap suc q)))
