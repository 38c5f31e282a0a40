use Rattle.std.proofs.Common.{◌≡◌, ℕ, ◌+◌, ◌<◌, Bool, ◌&&◌, List, length, get_or, drop, sym, ap, ◌∙◌, arith}
use Rattle.std.specs.List.{list_all}
use Rattle.std.proofs.lemmas.List.{at_drop_more, at_drop_all}
use Rattle.register.specs.Certificates.{blank_certificate}
use Rattle.register.specs.declared.certificate.Certificate.{Certificate}
use Rattle.opening.proofs.checks.all_pass.Goals as goal

-- the answer for what is left is the test of the next one and the answer for the rest
next : (passes : Certificate → Bool) (cs : List Certificate) (i : ℕ) (b : Bool) → i < length cs → b ≡ passes (get_or cs i blank_certificate) → (b && list_all passes (drop (i + 1) cs)) ≡ list_all passes (drop i cs)
next passes cs i b h e = ap (λ t. t && list_all passes (drop (i + 1) cs)) e ∙ sym (at_drop_more (list_all passes) cs i blank_certificate h)

pub returns-then-not-test : goal.returns-then-not-test
returns-then-not-test g c = λ passes says.
    next passes c.args.certificates.now c.loop-c.c-index _ (omega arith) (sym c.if-not-test.true ∙ says _ _ c.test.ensures) ∙ c.loop-c.invariant passes says

pub loop-c-preserved : goal.loop-c-preserved
loop-c-preserved g c = λ passes says.
    next passes c.args.certificates.now c.loop-c.c-index _ (omega arith) (sym c.if-not-test.false ∙ says _ _ c.test.ensures) ∙ c.loop-c.invariant passes says

pub returns : goal.returns
returns g c = λ passes says. sym (at_drop_all (list_all passes) c.args.certificates.now c.loop-c.c-index (omega arith)) ∙ c.loop-c.invariant passes says
