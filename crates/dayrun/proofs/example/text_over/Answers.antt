use Rattle.std.proofs.Common.{◌∙◌, ap}
use Rattle.std.proofs.lemmas.Result.{IfOk-weaker}
use Rattle.dayrun.specs.Days.{day_text}
use Rattle.dayrun.specs.Example.{floor}
use Rattle.dayrun.proofs.Exampled.{marking, grading, example_day}
use Rattle.dayrun.proofs.example.text_over.Goals as goal

pub returns : goal.returns
returns g c = λ same.
    let day = example_day g.S.Store c.new-vault.result _ _ _ c.args.input.now c.new-vault.ensures c.new.ensures same in
    IfOk-weaker c.text.result _ _ (λ out e. e ∙ ap (λ bs. day_text marking grading g.S.Store c.new-vault.result bs floor c.args.input.now) c.register.ensures ∙ day) c.text.ensures
