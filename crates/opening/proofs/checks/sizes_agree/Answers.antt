use Rattle.std.proofs.Common.{rules, nat_eq, length, ap, ◌∙◌, zero-add, arith}
use Rattle.stores.specs.Sheets.{size_of}
use Rattle.std.proofs.lemmas.Iterator.{YieldsList-from_slice, YieldsList-from_range, YieldsList-from_zip}
use Rattle.std.proofs.lemmas.Iterator.Search.{all_from_yields_List}
use Rattle.std.proofs.lemmas.Bool.{ne_eqb}
use Rattle.opening.proofs.Sizes.{sizes_zip, other_count}
use Rattle.opening.proofs.checks.sizes_agree.Goals as goal

pub returns-then-from-entries : goal.returns-then-from-entries
returns-then-from-entries g c =
    all_from_yields_List (λ p. nat_eq (size_of (g.S.Store.sheets c.args.store.now) p.0) p.1.size) c.all.new.self _ _ c.all.ensures.ran
    (YieldsList-from_zip (YieldsList-from_range 0 c.count-count.result (length c.args.entries.now) (search rules) (omega arith)) (YieldsList-from_slice c.args.entries.now (search rules)))
    (λ x b q k. search rules)
    ∙ sizes_zip (size_of (g.S.Store.sheets c.args.store.now)) (g.S.Store.sheets c.args.store.now) c.args.entries.now 0 (omega arith) (λ k l. ap (size_of (g.S.Store.sheets c.args.store.now)) (zero-add k))

pub returns-else-from-entries : goal.returns-else-from-entries
returns-else-from-entries g c = ne_eqb _ _ c.if-from-entries.false ∙ other_count (g.S.Store.sheets c.args.store.now) c.args.entries.now (λ e. c.if-from-entries.false (omega arith))
