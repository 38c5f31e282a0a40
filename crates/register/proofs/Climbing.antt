-- Program numbers that ascend: all are below a bound where the last is.
use Rattle.std.proofs.Common.{◌≡◌, ℕ, suc, ◌-◌, ◌<◌, true, ◌&&◌, List, [], ◌∷◌, length, get_or, ⊎_elim, sym, refl, ap, ◌∙◌, arith}
use Rattle.std.proofs.Math.Bool.{and-false}
use Rattle.std.proofs.lemmas.Bool.{and_from, and_parts, cases_Bool, lt-ltb, ltb-true}
use Rattle.register.specs.Certificates.{blank_certificate}
use Rattle.register.specs.Numbers.{programs_are_sheets, programs_ascend, programs_climb}
use Rattle.register.specs.declared.certificate.Certificate.{Certificate}

below_last : (n : ℕ) (cs : List Certificate) → programs_ascend cs ≡ true → (get_or cs (length cs - 1) blank_certificate).program < n → programs_are_sheets n cs ≡ true
below_last n [] up last = refl
below_last n (c ∷ []) up last = and_from _ _ (lt-ltb _ _ last) refl
below_last n (c ∷ d ∷ cs) up last =
    let parts = and_parts _ _ up in
    let same : length (c ∷ d ∷ cs) - 1 ≡ suc (length (d ∷ cs) - 1) = omega arith in
    let rest = below_last n (d ∷ cs) parts.1 (rw same at last) in
    let here : c.program < d.program = ltb-true _ _ parts.0 in
    let next : d.program < n = ltb-true _ _ (and_parts _ _ rest).0 in
    and_from _ _ (lt-ltb _ _ (omega arith)) rest

pub climb_last : (n : ℕ) (cs : List Certificate) → (get_or cs (length cs - 1) blank_certificate).program < n → programs_ascend cs ≡ programs_climb n cs
climb_last n cs last =
    ⊎_elim
    (λ up. sym (ap (λ b. b && programs_ascend cs) (below_last n cs up last)))
    (λ not. not ∙ sym (ap (λ b. programs_are_sheets n cs && b) not ∙ and-false _))
    (cases_Bool (programs_ascend cs))
