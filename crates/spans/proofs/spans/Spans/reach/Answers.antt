use Rattle.std.proofs.Common.{rules, ◌∙◌}
use Rattle.spans.proofs.Spanning.{reached}
use Rattle.spans.proofs.spans.Spans.reach.Goals as goal

pub returns : goal.returns
returns g c = c.reach.ensures ∙ reached c.args.self.now c.args.sheet c.args.place c.args.len c.in_ok-span.span.now (search rules) (search rules)
