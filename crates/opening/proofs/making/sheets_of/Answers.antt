use Rattle.std.proofs.Common.{rules, ◌<◌, ◌≤◌, length, ap, arith, length-take}
use Rattle.register.specs.Tables.{book_of}
use Rattle.std.proofs.lemmas.List.FromFn.{length-map-range_with_len}
use Rattle.model.specs.Opening.{sheet_for}
use Rattle.opening.proofs.Filling.{sheet_pushed}
use Rattle.opening.proofs.making.sheets_of.Goals as goal

pub push-requires : goal.push-requires
push-requires c =
    let rows = ap length c.loop-k.invariant in
    let fits : length c.entries-e-items.result.now ≤ 64 = rw c.entries-e-items.ensures (simp length-take (omega (arith, c.args.register.now.entries_fit))) in
    let few : length c.loop-k.sheets.items < 64 = omega (arith, rows, length-map-range_with_len (sheet_for (book_of c.args.register.now)) 0 c.loop-k.k) in
    (search rules, few)

pub loop-k-preserved : goal.loop-k-preserved
loop-k-preserved c =
    sheet_pushed (book_of c.args.register.now) c.loop-k.k _ _ c.entries-e-items.result.now c.certificates.result.now _
    c.loop-k.invariant c.entries-e-items.ensures c.certificates.ensures c.find.ensures c.push.ensures.items
