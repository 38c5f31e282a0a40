use Rattle.std.proofs.Common.{sym, ◌∙◌}
use Rattle.spans.specs.Rooms.{exact}
use Rattle.stores.specs.Slabs.{slab_memory, slab_sizes}
use Rattle.stores.proofs.Cutting.{length_cut}
use Rattle.stores.proofs.slab.calls.SlabStore.count.Goals as goal

pub returns : goal.returns
returns c = let s = c.args.self.now in c.count.ensures.value ∙ sym (length_cut exact (slab_sizes s) (slab_memory s))
