use Rattle.spans.proofs.Sizing.{small_index}
use Rattle.spans.proofs.spans.Spans.size.Goals as goal

pub returns-clause-fits : goal.returns-clause-fits
returns-clause-fits g c = small_index _ c.args.sheet c.args.self.now.limit
