use Rattle.std.proofs.Common.{◌+◌, not, rules, tests, ap, ◌∙◌}
use Rattle.std.proofs.lemmas.Iterator.{YieldsList-from_slice}
use Rattle.std.proofs.lemmas.Iterator.Consumers.{YieldsList-from_enumerate}
use Rattle.std.proofs.lemmas.Iterator.Search.{any_from_yields_List}
use Rattle.std.proofs.lemmas.List.{take_rest}
use Rattle.pages.specs.Paging.{unlisted}
use Rattle.pages.proofs.Listing.{again, again_twice, found}
use Rattle.pages.proofs.pages.making.any_twice.Goals as goal

pub returns : goal.returns
returns c =
    let ns = c.args.list.now in
    any_from_yields_List (again ns) _ _ c.any.result c.any.ensures.ran (YieldsList-from_enumerate (YieldsList-from_slice ns (search rules)) (search rules)) (λ x b q k. (search (rules, tests), found _ x.1.now b (search (rules, tests)) ∙ ap (λ xs. not (unlisted xs x.1.now)) (take_rest ns (x.0 + 1)))) ∙ again_twice ns
