use Rattle.std.proofs.Common.{leb, arith, rules, tests}
use Rattle.std.proofs.lemmas.Bool.Decides.{nat_tests}
use Rattle.std.proofs.lemmas.Iterator.{YieldsList-from_slice}
use Rattle.std.proofs.lemmas.Iterator.Search.{all_from_yields_List}
use Rattle.spans.proofs.spans.making.within.Goals as goal

pub returns-then-sizes-le-MOST_SHEETS : goal.returns-then-sizes-le-MOST_SHEETS
returns-then-sizes-le-MOST_SHEETS c =
    let all = all_from_yields_List (λ z. leb z 4096) _ _ c.all.result c.all.ensures.ran (YieldsList-from_slice c.args.sizes.now cc) (λ x b q k. search (rules, tests)) in
    grind (arith, nat_tests)
