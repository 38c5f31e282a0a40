use Rattle.std.proofs.Common.{◌≡◌, [], Err, rules}
use Rattle.refusals.proofs.Testing.{checked_stop}
use Rattle.pages.specs.PageStores.{page_check, page_tests}
use Rattle.pages.proofs.pages.Pages.check.Goals as goal

pub returns-in_err-fit : goal.returns-in_err-fit
returns-in_err-fit c =
    let zs = c.args.sizes.now in
    let ns = c.args.list.now in
    let e : Err c.in_err-fit.field-0.0 ≡ page_check zs ns c.args.memory_len =
    checked_stop (page_tests zs ns c.args.memory_len) [] tt zs c.in_err-fit.field-0.0 c.in_err-fit.ensures in
    rw (← e) (search rules)
