use Rattle.std.proofs.Common.{sym, ◌∙◌}
use Rattle.spans.specs.Rooms.{room}
use Rattle.stores.proofs.Cutting.{length_cut}
use Rattle.pages.specs.PageStores.{listed_bytes, page_sizes}
use Rattle.pages.proofs.pages.calls.PagesStore.count.Goals as goal

pub returns : goal.returns
returns c = let s = c.args.self.now in c.count.ensures.value ∙ sym (length_cut (room 16) (page_sizes s) (listed_bytes s))
