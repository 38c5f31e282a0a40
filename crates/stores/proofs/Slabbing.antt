-- What a slab's invariant says of its sheets, and what its check comes to.
use Rattle.std.proofs.Common.{◌≡◌, ℕ, zero, suc, ◌+◌, ◌<◌, ◌≤◌, true, false, ltb, List, [], ◌∷◌, length, get_or, take, drop, Ok, Err, vec_len, sum_by, sum, Result, sym, refl, ap, ◌∙◌, arith, length-drop, MatchResult}
use Rattle.std.proofs.lemmas.Bool.{le-ltb, leb-true, lt-ltb}
use Rattle.std.proofs.lemmas.List.{length-take-le}
use Rattle.std.proofs.lemmas.List.Sums.{sum_by-cons}
use Rattle.refusals.specs.Refusals.{checked}
use Rattle.refusals.specs.declared.refusal.Refusal.{Refusal}
use Rattle.refusals.specs.declared.refusal.Refusal.TheVariants.{PastMemory}
use Rattle.spans.specs.Bounds.{bound_tests}
use Rattle.spans.specs.Rooms.{exact, room}
use Rattle.spans.specs.Sizes.{limited}
use Rattle.spans.proofs.Limiting.{limited_ok}
use Rattle.spans.proofs.Rooms.{room_exact}
use Rattle.stores.specs.Cuts.{cut}
use Rattle.stores.specs.Reaches.{Reached}
use Rattle.stores.specs.Sheets.{size_of, write_answer}
use Rattle.stores.specs.Slabs.{fitted, slab_memory, slab_sheets, slab_sizes, start_of}
use Rattle.stores.specs.declared.slab.Slab.{Slab}
use Rattle.stores.proofs.Cutting.{size_cut}
use Rattle.stores.proofs.Reaching.{answered}

wide : (z : ℕ) → z ≤ exact z
wide z = omega arith

-- a sheet starts after as many bytes as the sizes before it come to
start_cut : (zs m : List ℕ) (k : ℕ) → sum zs ≤ length m → start_of (cut exact zs m) k ≡ sum (take k zs)
start_cut zs m zero inside = refl
start_cut [] m (suc k) inside = refl
start_cut (z ∷ zs) m (suc k) inside =
    let e = sum_by-cons exact z zs in
    let h : z ≤ length m = omega arith in
    sum_by-cons length (take z m) (take k (cut exact zs (drop z m)))
    ∙ rw (length-take-le z m h, start_cut zs (drop z m) k (simp length-drop (omega arith))) (sym (sum_by-cons exact z (take k zs)))

module _ (s : Slab) where
  inside : sum (slab_sizes s) ≤ length (slab_memory s)
  inside = omega (arith, leb-true (sum (slab_sizes s)) (vec_len s.memory) s.inside, s.memory.ok.0)

  pub slab_start : (k : ℕ) → start_of (slab_sheets s) k ≡ sum (take k (slab_sizes s))
  slab_start k = start_cut (slab_sizes s) (slab_memory s) k inside

  pub slab_size : (k : ℕ) → size_of (slab_sheets s) k ≡ get_or (slab_sizes s) k 0
  slab_size k = size_cut exact wide (slab_sizes s) (slab_memory s) k inside

  pub slab_answered : (k p b : ℕ) (r : Result ℕ Refusal) → r ≡ checked (bound_tests (length (slab_sizes s)) (get_or (slab_sizes s) k 0) k p b) (sum_by (room 1) (take k (slab_sizes s)) + p) →
      MatchResult r (Reached exact (slab_sizes s) (slab_memory s) k p b) (λ e. write_answer (slab_sheets s) k p b ≡ Err e)
  slab_answered k p b r is =
      answered exact wide (slab_sizes s) (slab_memory s) inside k p b r
      (is ∙ ap (λ f. checked (bound_tests (length (slab_sizes s)) (get_or (slab_sizes s) k 0) k p b) (sum_by f (take k (slab_sizes s)) + p)) room_exact)

-- sizes that were not refused, of sheets that take `end` bytes, in a memory of n bytes
module _ (zs ws : List ℕ) (n end : ℕ) (kept : Ok ws ≡ limited 1 zs) (taken : end ≡ sum_by (room 1) ws) where
  all : end ≡ sum zs
  all = taken ∙ ap (λ f. sum_by f ws) room_exact ∙ ap sum (limited_ok 1 zs ws kept).1

  pub past_memory : n < end → Err PastMemory ≡ fitted zs n
  past_memory over =
      let within = (limited_ok 1 zs ws kept).0 in let h : ltb n (sum zs) ≡ true = lt-ltb n (sum zs) (omega (arith, all)) in rw (within, h)

  pub in_memory : end ≤ n → Ok ws ≡ fitted zs n
  in_memory fits =
      let within = (limited_ok 1 zs ws kept).0 in
      let h : ltb n (sum zs) ≡ false = le-ltb n (sum zs) (omega (arith, all)) in
      rw (within, h, (limited_ok 1 zs ws kept).1)
