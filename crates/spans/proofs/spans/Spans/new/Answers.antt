use Rattle.std.proofs.Common.{◌≡◌, ℕ, ◌≤◌, true, leb, List, [], ◌∷◌, ◌++◌, length, get_or, take, sum_by, sym, ap, ◌∙◌, arith, length-set}
use Rattle.std.proofs.lemmas.List.{map_push, take_more, take_more_set}
use Rattle.std.proofs.lemmas.List.Sums.{sum_by_more}
use Rattle.std.proofs.lemmas.Bool.{and_parts, leb-true}
use Rattle.spans.specs.Limits.{small, within_limits}
use Rattle.spans.specs.Rooms.{room}
use Rattle.spans.specs.Spans.{placed, sizes_in}
use Rattle.spans.specs.declared.spans.span.Span.{Span}
use Rattle.spans.proofs.Placing.{placed_push}
use Rattle.spans.proofs.Rooms.{room_next, room_short}
use Rattle.spans.proofs.Sizing.{small_index}
use Rattle.spans.proofs.spans.Spans.new.Goals as goal

pub loop-i-preserved : goal.loop-i-preserved
loop-i-preserved g c =
    let zs = c.args.sizes.now in
    let i = c.loop-i.i in
    let u = g.row.UNIT in
    let so_far = c.loop-i.invariant in
    let z : ℕ = get_or zs i 0 in
    let here = c.loop-i-test.true in
    let within : within_limits zs ≡ true = sym c.within.ensures ∙ c.if-not-within.false in
    let few : length zs ≤ 64 = leb-true (length zs) 64 (and_parts (leb (length zs) 64) (small zs) within).0 in
    let fits : z ≤ 4096 = small_index zs i (and_parts (leb (length zs) 64) (small zs) within).1 in
    let taken = c.next_multiple_of-room in
    let takes : taken.result ≡ room u z = room_next u z taken.result taken.ensures.lower_bound (rw c.from.ensures at taken.ensures.upper_bound) (rw c.from.ensures at taken.ensures.multiple) in
    let span : Span = record { start = c.loop-i.end; size = z } in
    let more = take_more_set c.loop-i.rows i span (omega (arith, so_far.4, few)) in
    let sum = sum_by_more (room u) zs i 0 here in (
      ap sizes_in more ∙ map_push (λ (s : Span). s.size) (take i c.loop-i.rows) span ∙ ap (λ (xs : List ℕ). xs ++ z ∷ []) so_far.0 ∙ sym (take_more zs i 0 here),
      ap (placed (room u) 0) more ∙ placed_push (room u) 0 (take i c.loop-i.rows) span so_far.1 (omega (arith, so_far.2, ap (sum_by (room u)) so_far.0)),
      omega (arith, so_far.2, takes, sum),
      omega (arith, so_far.3, takes, fits, room_short u z),
      simp length-set so_far.4,
    )
