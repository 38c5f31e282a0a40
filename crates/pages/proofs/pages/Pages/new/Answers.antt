use Rattle.std.proofs.Common.{vec_items, arith}
use Rattle.spans.specs.Sizes.{sizes_of}
use Rattle.pages.specs.Paging.{gathered}
use Rattle.pages.proofs.Paging.{no_pages, no_sheets}
use Rattle.pages.proofs.pages.Pages.new.Goals as goal

pub returns-in_default-clause-sheets : goal.returns-in_default-clause-sheets
returns-in_default-clause-sheets c =
    no_sheets c.args.sizes.now (vec_items c.args.list) (vec_items c.args.memory) c.as_slice.result.now c.len.result c.in_default.field-0 c.in_default.ensures c.as_slice.ensures.value (omega (arith, c.len.ensures, c.args.memory.ok.0)) (sizes_of c.none.result) (gathered (vec_items c.args.memory) (vec_items c.clear.new.self)) c.none.ensures

pub returns-in_default-clause-list : goal.returns-in_default-clause-list
returns-in_default-clause-list c =
    no_pages c.args.sizes.now (vec_items c.args.list) (vec_items c.args.memory) c.as_slice.result.now c.len.result c.in_default.field-0 c.in_default.ensures c.as_slice.ensures.value (omega (arith, c.len.ensures, c.args.memory.ok.0)) (vec_items c.clear.new.self) c.clear.ensures.items
