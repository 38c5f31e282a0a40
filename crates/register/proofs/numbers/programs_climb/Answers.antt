use Rattle.std.proofs.Common.{◌∙◌, rules}
use Rattle.register.proofs.Climbing.{climb_last}
use Rattle.register.proofs.numbers.programs_climb.Goals as goal

pub returns-then-from-sheets : goal.returns-then-from-sheets
returns-then-from-sheets c = c.programs_ascend.ensures ∙ climb_last c.args.sheets c.args.certificates.now (search rules)
