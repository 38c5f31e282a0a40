use Rattle.std.proofs.Common.{◌≡◌, ◌∙◌, drop, sym, ap, rules}
use Rattle.asks.proofs.Peeling.{first_row, line_cut, after_end}
use Rattle.asks.proofs.lines.first_line.Goals as goal

pub returns-clause-value : goal.returns-clause-value
returns-clause-value c =
    let rest : c.unwrap_or-after.result.now ≡ drop 1 c.split_at.result.1.now = ap (λ x. x.now) c.unwrap_or-after.ensures ∙ after_end c.split_at.result.1 c.get.result c.get.ensures.lookup in
    line_cut c.args.text.now _ _ _ _ (search rules) c.len_before.ensures.value c.split_at.ensures.front c.split_at.ensures.back rest

pub returns-clause-first : goal.returns-clause-first
returns-clause-first c =
    let rest : c.unwrap_or-after.result.now ≡ drop 1 c.split_at.result.1.now = ap (λ x. x.now) c.unwrap_or-after.ensures ∙ after_end c.split_at.result.1 c.get.result c.get.ensures.lookup in
    first_row c.args.text.now _ _ (sym (line_cut c.args.text.now _ _ _ _ (search rules) c.len_before.ensures.value c.split_at.ensures.front c.split_at.ensures.back rest))
