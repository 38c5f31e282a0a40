use Rattle.std.proofs.Common.{◌≡◌, Bool, drop}
use Rattle.std.specs.List.{list_all}
use Rattle.register.specs.declared.certificate.Certificate.{Certificate}
use Rattle.opening.proofs.checks.all_pass.Given as goal

-- what is left decides
abbrev pub invariant-loop-c : goal.invariant-loop-c
invariant-loop-c g l =
    (passes : Certificate → Bool) → ((c : Certificate) (b : Bool) → goal.F-post g l.test c b → b ≡ passes c)
    → list_all passes (drop l.c-index l.certificates) ≡ list_all passes l.certificates
