use Rattle.std.proofs.Common.{◌++◌, ap, ◌∙◌}
use Rattle.asks.specs.Replies.{line_text}
use Rattle.asks.specs.declared.answer.Answer.TheVariants.{Opened}
use Rattle.vault.specs.Meaning.{policy, state, opening_of, answer_of}
use Rattle.dayrun.specs.Days.{ended, opening_number, printed}
use Rattle.dayrun.proofs.Leaving.{left_printed}
use Rattle.dayrun.proofs.day.text.Goals as goal

pub returns : goal.returns
returns g c =
    let w = c.open.new.vault in
    let first = ended (line_text (Opened (opening_number (answer_of (opening_of g.M.Order g.G.Order g.S.Store c.args.vault c.args.register.now c.args.floor))))) in
    c.in_ok-answer_all.ensures ∙ ap (λ b. b ++ printed (policy g.M.Order g.G.Order w) (state g.S.Store w) c.args.input.now) (c.in_ok-open.ensures.bytes ∙ ap (λ b. b ++ first) c.new-out.ensures.bytes)
    ∙ ap (λ l. first ++ l) (left_printed g.M.Order g.G.Order g.S.Store c.args.vault w c.args.floor (opening_of g.M.Order g.G.Order g.S.Store c.args.vault c.args.register.now c.args.floor) c.args.input.now c.in_ok-open.ensures.after)
