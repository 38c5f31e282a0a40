use Rattle.spans.specs.Sizes.{sizes_of}
use Rattle.stores.proofs.Slabbing.{in_memory, past_memory}
use Rattle.stores.proofs.slab.making.fit.Goals as goal

pub returns-then-end-memory_len : goal.returns-then-end-memory_len
returns-then-end-memory_len c =
    past_memory c.args.sizes.now (sizes_of c.in_ok-sheets.sheets) c.args.memory_len c.end.result c.in_ok-sheets.ensures c.end.ensures c.if-end-memory_len.true

pub returns : goal.returns
returns c =
    in_memory c.args.sizes.now (sizes_of c.in_ok-sheets.sheets) c.args.memory_len c.end.result c.in_ok-sheets.ensures c.end.ensures c.if-end-memory_len.false
