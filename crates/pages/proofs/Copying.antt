-- One turn of a copy: a stretch within one page is read or written, after `done` bytes from the listed byte `at` on.
use Rattle.std.proofs.Common.{◌≡◌, ℕ, ◌+◌, ◌-◌, ◌≤◌, true, List, ◌++◌, length, take, drop, sym, ap, ◌∙◌, arith, length-drop, length-take}
use borrow.Rule.Slice.PartMut.{put_mid}
use Rattle.std.proofs.lemmas.List.{drop-drop}
use Rattle.std.proofs.lemmas.Slice.{take-put_mid}
use Rattle.stores.specs.Splices.{spliced}
use Rattle.pages.specs.Paging.{gathered, none_twice, OthersSame}
use Rattle.pages.proofs.Gathering.{IsStretch, stretch_others, stretch_read, stretch_within, stretch_written}
use Rattle.pages.proofs.Splicing.{splice_more, take_both}

module _ {ns m : List ℕ} (at done : ℕ) {left start len : ℕ} (s : IsStretch ns m (at + done) left start len) where
  pub read_step : (buffer ys : List ℕ) → ys ≡ take (start + len - start) (drop start m) → done ≤ length buffer → take done buffer ≡ take done (drop at (gathered m ns)) →
      take (done + len) (put_mid done (done + len - done) buffer ys) ≡ take (done + len) (drop at (gathered m ns))
  read_step buffer ys read front so_far =
      let cut : start + len - start ≡ len = omega arith in
      let is : ys ≡ take len (drop start m) = read ∙ ap (λ n. take n (drop start m)) cut in
      let long : length ys ≡ len = ap length is ∙ simp (length-take, length-drop) (omega (arith, stretch_within s)) in
      take-put_mid done (done + len - done) buffer ys (done + len) (omega arith) front
      ∙ ap (λ xs. xs ++ ys) so_far
      ∙ ap (λ zs. take done (drop at (gathered m ns)) ++ zs) (is ∙ sym (stretch_read s) ∙ ap (take len) (sym (drop-drop done at (gathered m ns))))
      ∙ take_both (drop at (gathered m ns)) done len

  module _ (bytes ys : List ℕ) (put : ys ≡ take (done + len - done) (drop done bytes)) (fits : done + len ≤ length bytes) where
    written : ys ≡ take len (drop done bytes)
    written = let cut : done + len - done ≡ len = omega arith in put ∙ ap (λ n. take n (drop done bytes)) cut

    pub write_long : length ys ≡ len
    write_long = ap length written ∙ simp (length-take, length-drop) (omega arith)

    pub write_step : (first : List ℕ) → none_twice ns ≡ true → at ≤ length first → gathered m ns ≡ spliced first at (take done bytes) →
        gathered (spliced m start ys) ns ≡ spliced first at (take (done + len) bytes)
    write_step first apart reach so_far =
        stretch_written s ys write_long apart
        ∙ ap (λ l. spliced l (at + done) ys) so_far
        ∙ ap (spliced (spliced first at (take done bytes)) (at + done)) written
        ∙ splice_more first at bytes done len fits reach

    pub write_others : (first : List ℕ) → OthersSame ns first m → OthersSame ns first (spliced m start ys)
    write_others first so_far n other = stretch_others s ys write_long n other ∙ so_far n other
