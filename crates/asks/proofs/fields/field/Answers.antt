use Rattle.std.proofs.Common.{sym, ◌∙◌}
use Rattle.asks.proofs.Cuts.{field_space, no_space, no_value}
use Rattle.asks.proofs.fields.field.Goals as goal

pub returns-in_err-text-clause-value : goal.returns-in_err-text-clause-value
returns-in_err-text-clause-value c =
    let none = c.in_err-text.ensures.cases in
    no_value _ c.from_residual.result c.from_residual.ensures ∙ sym (no_space c.args.most c.args.text.now none)

pub returns-in_err-n-clause-value : goal.returns-in_err-n-clause-value
returns-in_err-n-clause-value c =
    let begun = c.in_ok-text.ensures.cases in
    no_value _ c.from_residual-in_err-n.result c.from_residual-in_err-n.ensures
    ∙ field_space c.args.most c.args.text.now _ _ _ _ _ begun.0 begun.1 c.len_before.ensures.value c.split_at.ensures.front c.split_at.ensures.back c.in_err-n.ensures

pub returns-clause-value : goal.returns-clause-value
returns-clause-value c =
    let begun = c.in_ok-text.ensures.cases in
    field_space c.args.most c.args.text.now _ _ _ _ _ begun.0 begun.1 c.len_before.ensures.value c.split_at.ensures.front c.split_at.ensures.back c.in_ok-n.ensures
