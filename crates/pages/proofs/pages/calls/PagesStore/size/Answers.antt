use Rattle.std.proofs.Common.{sym, ◌∙◌}
use Rattle.pages.proofs.Paging.{page_size}
use Rattle.pages.proofs.pages.calls.PagesStore.size.Goals as goal

pub returns : goal.returns
returns c = c.size.ensures.value ∙ sym (page_size c.args.self.now c.args.sheet)
