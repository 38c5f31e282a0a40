use Rattle.std.proofs.Common.{sym, ◌∙◌}
use Rattle.stores.proofs.Slabbing.{slab_size}
use Rattle.stores.proofs.slab.calls.SlabStore.size.Goals as goal

pub returns : goal.returns
returns c = c.size.ensures.value ∙ sym (slab_size c.args.self.now c.args.sheet)
