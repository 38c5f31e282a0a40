use Rattle.std.proofs.Common.{◌∙◌, arith, rules}
use Rattle.std.proofs.lemmas.Bool.Decides.{nat_tests}
use Rattle.std.proofs.lemmas.List.{get_or-take, length-take-le}
use Rattle.std.proofs.lemmas.List.FromFn.{fill_by_all}
use Rattle.register.specs.Certificates.{blank_certificate}
use Rattle.register.proofs.form.Form.certificates.Goals as goal

pub returns-clause-rows : goal.returns-clause-rows
returns-clause-rows c =
    let n = c.args.self.now.layout.certificates in
    fill_by_all _ _ n blank_certificate (length-take-le n c.rows.result (grind (arith, nat_tests, c.args.self.now.within, c.rows.ensures.size)))
    (λ k h. get_or-take n c.rows.result k blank_certificate h ∙ search (rules, c.rows.ensures.rows k blank_certificate h))
