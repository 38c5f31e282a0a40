use Rattle.std.proofs.Common.{◌≡◌, ◌+◌, ◌-◌, ◌*◌, ◌<◌, ◌≤◌, min, length, get_or, ◌/◌, ◌%◌, sym, refl, ap, ◌∙◌, arith}
use Rattle.stores.proofs.Splicing.{put_in}
use Rattle.pages.specs.PageStores.{bytes_of}
use Rattle.pages.specs.Paging.{gathered, page, unlisted}
use Rattle.pages.proofs.Copying.{write_long, write_others, write_step}
use Rattle.pages.proofs.Gathering.{IsStretch, stretch_within}
use Rattle.pages.proofs.Paging.{bytes_long, whole_pages}
use Rattle.pages.proofs.pages.ListedPages.write.Goals as goal

pub loop-i-preserved : goal.loop-i-preserved
loop-i-preserved c =
    let s = c.loop-i.self in
    let first = c.args.self.now in
    let at = c.args.at in
    let i = c.loop-i.i in
    let bytes = c.args.bytes.now in
    let done = c.loop-i.done in
    let start = c.stretch-start.result.0 in
    let len = c.stretch-start.result.1 in
    let ys = c.copy_from_slice.new.self in
    let after = c.copy_from_slice.ensures.after in
    let same : s.list.items ≡ first.list.items = ap (λ v. v.items) c.loop-i.invariant.1 in
    let below : at + done < 16 * length s.list.items = omega (arith, ap length same, first.list.ok.0, c.requires) in
    let here : i ≡ (at + done) / 16 = omega (arith, c.loop-i.invariant.0) in
    let next : min (16 * (i + 1) - at) (length bytes) ≡ done + len = omega (arith, c.loop-i.invariant.0, c.stretch-start.ensures.len) in
    let on_a_page : IsStretch s.list.items s.memory.items (at + done) (length bytes - done) start len =
    record { below = below; starts = c.stretch-start.ensures.start ∙ ap (λ k. 16 * get_or s.list.items k 0 + (at + done) % 16) here; lasts = c.stretch-start.ensures.len; whole = whole_pages s } in
    let fits : done + len ≤ length bytes = omega (arith, c.stretch-start.ensures.len) in
    let long = write_long at done on_a_page bytes ys after fits in
    let put = put_in s.memory c.deref_mut.result.now c.deref_mut.ensures.value start (start + len) ys ys refl (omega (arith, long)) (omega (arith, long, stretch_within on_a_page, s.memory.ok.0)) in
    let reach : at ≤ length (bytes_of first) = omega (arith, bytes_long first, first.list.ok.0, c.requires) in (
      sym next,
      c.loop-i.invariant.1,
      rw next (ap (λ l. gathered l s.list.items) put ∙ write_step at done on_a_page bytes ys after fits (bytes_of first) s.apart reach (rw (sym c.loop-i.invariant.0) at c.loop-i.invariant.2)),
      λ n other. ap (λ l. page l n) put ∙ write_others at done on_a_page bytes ys after fits first.memory.items (λ k kept. c.loop-i.invariant.3 k (ap (λ l. unlisted l k) (sym same) ∙ kept)) n (ap (λ l. unlisted l n) same ∙ other),
      c.loop-i.invariant.4,
    )
