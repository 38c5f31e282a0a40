use Rattle.std.proofs.Common.{◌≡◌, false, Ok, Err, sym, refl, ap, ◌∙◌, rules}
use Rattle.std.proofs.lemmas.Result.{err_from_is_err_and}
use Rattle.std.specs.Option.{is_some}
use Rattle.model.specs.Opening.{opening}
use Rattle.model.specs.Orders.{order}
use Rattle.opening.specs.Admission.{kept}
use Rattle.vault.specs.Meaning.{answer_of}
use Rattle.vault.proofs.Leaving.{accepted, accepted_as, refused_as, law_holds, sizes_hold, left_as}
use Rattle.vault.proofs.vault.Vault.open.Goals as goal

pub returns-in_err-opening-clause-value : goal.returns-in_err-opening-clause-value
returns-in_err-opening-clause-value g c =
    let v = c.args.self.now in
    let p = err_from_is_err_and c.from_residual-in_err-opening.result c.from_residual-in_err-opening.ensures.1 in
    let closed : is_some v.opening ≡ false = search rules in
    p.1 ∙ ap Err p.2 ∙ sym (ap answer_of (refused_as (opening (order g.M.Order v.orders.marks) (order g.G.Order v.orders.grades) c.args.register.now c.args.floor (g.S.Store.sheets v.store))
    (is_some v.opening) c.args.floor c.in_err-opening.field-0.0 closed c.in_err-opening.ensures))

pub returns-in_err-opening-clause-after : goal.returns-in_err-opening-clause-after
returns-in_err-opening-clause-after g c =
    let v = c.args.self.now in
    let closed : is_some v.opening ≡ false = search rules in
    left_as v v c.args.floor _ (Err c.in_err-opening.field-0.0)
    (refused_as (opening (order g.M.Order v.orders.marks) (order g.G.Order v.orders.grades) c.args.register.now c.args.floor (g.S.Store.sheets v.store))
    (is_some v.opening) c.args.floor c.in_err-opening.field-0.0 closed c.in_err-opening.ensures) refl

pub returns-clause-value : goal.returns-clause-value
returns-clause-value g c =
    let v = c.args.self.now in
    let closed : is_some v.opening ≡ false = search rules in
    sym (ap answer_of (accepted_as (opening (order g.M.Order v.orders.marks) (order g.G.Order v.orders.grades) c.args.register.now c.args.floor (g.S.Store.sheets v.store))
    (is_some v.opening) c.args.floor (kept c.in_ok-opening.opening) closed (accepted _ c.args.floor (kept c.in_ok-opening.opening) c.in_ok-opening.ensures)))

pub returns-clause-after : goal.returns-clause-after
returns-clause-after g c =
    let v = c.args.self.now in
    let closed : is_some v.opening ≡ false = search rules in
    let o = opening (order g.M.Order v.orders.marks) (order g.G.Order v.orders.grades) c.args.register.now c.args.floor (g.S.Store.sheets v.store) in
    let a = accepted (o false) c.args.floor (kept c.in_ok-opening.opening) c.in_ok-opening.ensures in
    left_as v _ c.args.floor _ (Ok a.book) (accepted_as o (is_some v.opening) c.args.floor (kept c.in_ok-opening.opening) closed a)
    (record { marks = refl; grades = refl; store = refl; is_open = refl; floor = ap (λ m. m.floor) a.kept_is; sheets = ap (λ m. m.sheets) a.kept_is; seats = ap (λ m. m.seats) a.kept_is })

pub returns-clause-law : goal.returns-clause-law
returns-clause-law g c = λ _.
    law_holds (order g.M.Order c.args.self.now.orders.marks) (order g.G.Order c.args.self.now.orders.grades) c.args.register.now c.args.floor
    (g.S.Store.sheets c.args.self.now.store) (kept c.in_ok-opening.opening) (accepted _ c.args.floor (kept c.in_ok-opening.opening) c.in_ok-opening.ensures)
    (g.met.M.Order.ordered c.args.self.now.orders.marks) (g.met.G.Order.ordered c.args.self.now.orders.grades)

pub returns-clause-sizes : goal.returns-clause-sizes
returns-clause-sizes g c = λ _.
    sizes_hold (order g.M.Order c.args.self.now.orders.marks) (order g.G.Order c.args.self.now.orders.grades) c.args.register.now c.args.floor
    (g.S.Store.sheets c.args.self.now.store) (kept c.in_ok-opening.opening) (accepted _ c.args.floor (kept c.in_ok-opening.opening) c.in_ok-opening.ensures)
