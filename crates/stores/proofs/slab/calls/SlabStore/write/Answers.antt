use Rattle.std.proofs.Common.{◌≡◌, ◌+◌, sym, refl, ap, ◌∙◌, arith, rules}
use Rattle.stores.specs.Slabs.{slab_sheets, start_of}
use Rattle.stores.proofs.Slabbing.{slab_start}
use Rattle.stores.proofs.Splicing.{put_in}
use Rattle.stores.proofs.slab.calls.SlabStore.write.Goals as goal

pub returns-clause-memory : goal.returns-clause-memory
returns-clause-memory c =
    let s = c.args.self.now in
    let k = c.args.sheet in
    let p = c.args.place in
    let here : c.in_ok-at.at ≡ start_of (slab_sheets s) k + p = c.in_ok-at.ensures.here ∙ ap (λ n. n + p) (sym (slab_start s k)) in
    let e = put_in s.memory c.deref_mut.result.now c.deref_mut.ensures.value c.in_ok-at.at _ c.copy_from_slice.new.self c.args.bytes.now c.copy_from_slice.ensures.after refl (omega (arith, c.in_ok-at.ensures.within, s.memory.ok.0)) in
    rw (e, here) (search rules)
