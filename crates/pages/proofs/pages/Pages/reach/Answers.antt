use Rattle.pages.proofs.Paging.{page_answered}
use Rattle.pages.proofs.pages.Pages.reach.Goals as goal

pub returns : goal.returns
returns c =
    page_answered c.args.self.now c.args.sheet c.args.place c.args.len c.reach.result c.reach.ensures
