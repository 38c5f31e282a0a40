use Rattle.stores.proofs.Slabbing.{slab_answered}
use Rattle.stores.proofs.slab.Slab.reach.Goals as goal

pub returns : goal.returns
returns c =
    slab_answered c.args.self.now c.args.sheet c.args.place c.args.len c.reach.result c.reach.ensures
