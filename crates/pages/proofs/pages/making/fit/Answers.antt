use Rattle.std.proofs.Common.{sym, ◌∙◌}
use Rattle.std.proofs.lemmas.Bool.{not-false}
use Rattle.spans.specs.Sizes.{sizes_of}
use Rattle.pages.specs.Paging.{none_twice}
use Rattle.pages.proofs.Paging.{in_memory, other_count, past_memory}
use Rattle.pages.proofs.pages.making.fit.Goals as goal

pub returns-then-list-end : goal.returns-then-list-end
returns-then-list-end c =
    other_count c.args.sizes.now (sizes_of c.in_ok-sheets.sheets) c.args.list.now c.args.memory_len c.end.result c.in_ok-sheets.ensures c.end.ensures c.if-list-gt-MOST_PAGES.false c.if-list-end.true

pub returns-then-not-inside : goal.returns-then-not-inside
returns-then-not-inside c =
    let apart = not-false (none_twice c.args.list.now) (sym c.any_twice.ensures ∙ c.if-any_twice.false) in
    past_memory c.args.sizes.now (sizes_of c.in_ok-sheets.sheets) c.args.list.now c.args.memory_len c.end.result c.in_ok-sheets.ensures c.end.ensures c.if-list-gt-MOST_PAGES.false c.if-list-end.false apart (sym c.inside.ensures ∙ c.if-not-inside.true)

pub returns : goal.returns
returns c =
    let apart = not-false (none_twice c.args.list.now) (sym c.any_twice.ensures ∙ c.if-any_twice.false) in
    in_memory c.args.sizes.now (sizes_of c.in_ok-sheets.sheets) c.args.list.now c.args.memory_len c.end.result c.in_ok-sheets.ensures c.end.ensures c.if-list-gt-MOST_PAGES.false c.if-list-end.false apart (sym c.inside.ensures ∙ c.if-not-inside.false)
