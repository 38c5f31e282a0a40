use Rattle.std.proofs.Common.{Err, ap, ◌∙◌}
use Rattle.std.proofs.lemmas.Result.{err_from_is_err_and}
use Rattle.register.specs.Tables.{book_of}
use Rattle.opening.specs.Admission.{made, admitted}
use Rattle.model.specs.Orders.{order}
use Rattle.opening.proofs.Admitting.{refused}
use Rattle.opening.proofs.admission.admit.Goals as goal

pub returns-in_err-test : goal.returns-in_err-test
returns-in_err-test g c =
    let p = err_from_is_err_and c.from_residual-in_err-test.result c.from_residual-in_err-test.ensures.1 in
    ap admitted (p.1 ∙ ap Err p.2)
    ∙ ap (made c.args.floor) (refused (order g.M.Order c.args.orders.now.marks) (order g.G.Order c.args.orders.now.grades) c.args.bytes.now c.args.floor (g.S.Store.sheets c.args.store.now)
    (book_of c.in_ok-register.register) c.in_ok-register.ensures c.in_err-test.field-0.0 c.in_err-test.ensures)
