use Rattle.std.proofs.Common.{eqb, length, ap, ◌∙◌, rules}
use Rattle.std.proofs.lemmas.Iterator.{YieldsList-from_slice}
use Rattle.std.proofs.lemmas.Iterator.Search.{position_from_yields_List}
use Rattle.std.specs.Option.{unwrap_or}
use Rattle.asks.proofs.Cuts.{before_or_all}
use Rattle.asks.proofs.cut.len_before.Goals as goal

pub returns-clause-value : goal.returns-clause-value
returns-clause-value c =
    let found = position_from_yields_List (λ b. eqb b c.args.end) _ _ _ c.position.ensures.ran (YieldsList-from_slice c.args.text.now (search rules)) (λ x b q k. search rules) in
    c.unwrap_or.ensures ∙ ap (λ o. unwrap_or o (length c.args.text.now)) found ∙ before_or_all c.args.end c.args.text.now
