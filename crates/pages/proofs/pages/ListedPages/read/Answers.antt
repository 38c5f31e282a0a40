use Rattle.std.proofs.Common.{◌≡◌, ◌+◌, ◌-◌, ◌*◌, ◌<◌, min, ℕ, List, length, get_or, take, drop, ◌/◌, ◌%◌, sym, ap, ◌∙◌, arith}
use Rattle.pages.proofs.Copying.{read_step}
use Rattle.pages.proofs.Gathering.{IsStretch}
use Rattle.pages.proofs.Paging.{whole_pages}
use Rattle.pages.proofs.pages.ListedPages.read.Goals as goal

pub loop-i-preserved : goal.loop-i-preserved
loop-i-preserved c =
    let s = c.args.self.now in
    let at = c.args.at in
    let i = c.loop-i.i in
    let buffer = c.loop-i.buffer in
    let done = c.loop-i.done in
    let start = c.stretch-start.result.0 in
    let len = c.stretch-start.result.1 in
    let below : at + done < 16 * length s.list.items = omega (arith, s.list.ok.0, c.requires) in
    let page : i ≡ (at + done) / 16 = omega (arith, c.loop-i.invariant.0) in
    let next : min (16 * (i + 1) - at) (length c.args.buffer.now) ≡ done + len = omega (arith, c.loop-i.invariant.0, c.stretch-start.ensures.len) in
    let on_a_page : IsStretch s.list.items s.memory.items (at + done) (length buffer - done) start len =
    record { below = below; starts = c.stretch-start.ensures.start ∙ ap (λ k. 16 * get_or s.list.items k 0 + (at + done) % 16) page; lasts = c.stretch-start.ensures.len; whole = whole_pages s } in
    let read = c.copy_from_slice.ensures.after ∙ ap (λ (l : List ℕ). take (start + len - start) (drop start l)) c.deref.ensures.value in
    (sym next, rw next (read_step at done on_a_page buffer c.copy_from_slice.new.self read (omega arith) (rw (sym c.loop-i.invariant.0) at c.loop-i.invariant.1)))
