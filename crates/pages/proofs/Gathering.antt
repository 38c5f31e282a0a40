-- The bytes of listed pages: how many there are, where they stand in the memory, and what a write within one page changes.
use Rattle.std.proofs.Common.{◌≡◌, ℕ, zero, suc, ◌+◌, ◌-◌, ◌*◌, ◌/◌, ◌%◌, ◌<◌, ◌≤◌, min, true, not, eqb, leb, ◌≢◌, List, [], ◌∷◌, ◌++◌, length, get_or, take, drop, sym, refl, ap, ◌∙◌, ⊎_elim, arith, length-append, length-drop, length-take}
use Rattle.std.proofs.lemmas.List.{drop-append-le, drop_at, drop-drop, take-append-le}
use Rattle.std.proofs.lemmas.Bool.{and_parts, cases_lt, eqb-false, leb-true, not-true}
use Rattle.stores.specs.Splices.{spliced}
use Rattle.pages.specs.Paging.{all_inside, gathered, none_twice, page, unlisted, OthersSame}
use Rattle.pages.proofs.Splicing.{part_after, part_before, part_in, part_part, splice_left, splice_right}

pub length_page : (m : List ℕ) (n : ℕ) → 16 * n + 16 ≤ length m → length (page m n) ≡ 16
length_page m n whole = simp (length-take, length-drop) (omega arith)

-- what an unlisted page is not, and what a listed one is
pub unlisted_at : (n : ℕ) (ns : List ℕ) (i : ℕ) → unlisted ns n ≡ true → i < length ns → n ≢ get_or ns i 0
unlisted_at n [] i other below = absurd (omega arith)
unlisted_at n (x ∷ ns) zero other below = eqb-false n x (not-true (eqb n x) (and_parts (not (eqb n x)) _ other).0)
unlisted_at n (x ∷ ns) (suc i) other below = unlisted_at n ns i (and_parts (not (eqb n x)) _ other).1 (omega arith)

pub inside_at : (ns : List ℕ) (len i : ℕ) → all_inside ns len ≡ true → i < length ns → 16 * get_or ns i 0 + 16 ≤ len
inside_at [] len i whole below = absurd (omega arith)
inside_at (n ∷ ns) len zero whole below = leb-true (16 * n + 16) len (and_parts (leb (16 * n + 16) len) _ whole).0
inside_at (n ∷ ns) len (suc i) whole below = inside_at ns len i (and_parts (leb (16 * n + 16) len) _ whole).1 (omega arith)

module _ (m : List ℕ) where
  pub length_gathered : (ns : List ℕ) → all_inside ns (length m) ≡ true → length (gathered m ns) ≡ 16 * length ns
  length_gathered [] whole = refl
  length_gathered (n ∷ ns) whole =
      let parts = and_parts (leb (16 * n + 16) (length m)) _ whole in
      omega (arith, length-append (page m n) (gathered m ns), length_page m n (leb-true (16 * n + 16) (length m) parts.0), length_gathered ns parts.1)

  -- the listed bytes from place r of page i of the list on are those of that page
  pub gathered_part : (ns : List ℕ) (i r len : ℕ) → all_inside ns (length m) ≡ true → i < length ns → r + len ≤ 16 → take len (drop (16 * i + r) (gathered m ns)) ≡ take len (drop (16 * get_or ns i 0 + r) m)
  gathered_part [] i r len whole below inside = absurd (omega arith)
  gathered_part (n ∷ ns) zero r len whole below inside =
      let fits = leb-true (16 * n + 16) (length m) (and_parts (leb (16 * n + 16) (length m)) _ whole).0 in
      let long = length_page m n fits in
      let same : 16 * zero + r ≡ r = omega arith in
      ap (λ a. take len (drop a (page m n ++ gathered m ns))) same
      ∙ ap (take len) (drop-append-le r (page m n) (gathered m ns) (omega arith))
      ∙ take-append-le len (drop r (page m n)) (gathered m ns) (omega (arith, length-drop r (page m n)))
      ∙ part_part m (16 * n) 16 r len inside fits
  gathered_part (n ∷ ns) (suc i) r len whole below inside =
      let parts = and_parts (leb (16 * n + 16) (length m)) _ whole in
      let long = length_page m n (leb-true (16 * n + 16) (length m) parts.0) in
      let next : 16 * suc i + r ≡ 16 + (16 * i + r) = omega arith in
      ap (λ a. take len (drop a (page m n ++ gathered m ns))) next
      ∙ ap (take len) (sym (drop-drop (16 * i + r) 16 (page m n ++ gathered m ns)) ∙ ap (drop (16 * i + r)) (drop_at (page m n) (gathered m ns) 16 long))
      ∙ gathered_part ns i r len parts.1 (omega arith) inside

  -- a write within page n
  module _ (n r : ℕ) (bs : List ℕ) (whole : 16 * n + 16 ≤ length m) (inside : r + length bs ≤ 16) where
    -- leaves every other page
    pub other_page : (x : ℕ) → x ≢ n → page (spliced m (16 * n + r) bs) x ≡ page m x
    other_page x other =
        ⊎_elim
        (λ before. part_before m (16 * x) 16 (16 * n + r) bs (omega arith) (omega arith))
        (λ after. part_after m (16 * x) 16 (16 * n + r) bs (omega arith) (omega arith))
        (cases_lt x n)

    -- and so all listed bytes where it is not listed
    others : (ns : List ℕ) → unlisted ns n ≡ true → gathered (spliced m (16 * n + r) bs) ns ≡ gathered m ns
    others [] other = refl
    others (x ∷ ns) other =
        let parts = and_parts (not (eqb n x)) _ other in
        let differs = eqb-false n x (not-true (eqb n x) parts.0) in
        ap (λ p. p ++ gathered (spliced m (16 * n + r) bs) ns) (other_page x (λ e. differs (sym e)))
        ∙ ap (λ l. page m x ++ l) (others ns parts.1)

    own_page : page (spliced m (16 * n + r) bs) n ≡ spliced (page m n) r bs
    own_page = part_in m (16 * n) 16 r bs inside whole

  -- a write within page i of the list is a write to the listed bytes there
  pub gathered_splice : (ns : List ℕ) (i r : ℕ) (bs : List ℕ) → none_twice ns ≡ true → all_inside ns (length m) ≡ true → i < length ns → r + length bs ≤ 16 → gathered (spliced m (16 * get_or ns i 0 + r) bs) ns ≡ spliced (gathered m ns) (16 * i + r) bs
  gathered_splice [] i r bs apart whole below inside = absurd (omega arith)
  gathered_splice (n ∷ ns) zero r bs apart whole below inside =
      let fits = leb-true (16 * n + 16) (length m) (and_parts (leb (16 * n + 16) (length m)) _ whole).0 in
      let long = length_page m n fits in
      let same : r ≡ 16 * zero + r = omega arith in
      ap (λ p. p ++ gathered (spliced m (16 * n + r) bs) ns) (own_page n r bs fits inside)
      ∙ ap (λ l. spliced (page m n) r bs ++ l) (others n r bs fits inside ns (and_parts (unlisted ns n) _ apart).0)
      ∙ sym (splice_left (page m n) r bs (gathered m ns) (omega arith))
      ∙ ap (λ a. spliced (page m n ++ gathered m ns) a bs) same
  gathered_splice (n ∷ ns) (suc i) r bs apart whole below inside =
      let parts = and_parts (leb (16 * n + 16) (length m)) _ whole in
      let long = length_page m n (leb-true (16 * n + 16) (length m) parts.0) in
      let here : i < length ns = omega arith in
      let next : 16 + (16 * i + r) ≡ 16 * suc i + r = omega arith in
      let differs = unlisted_at n ns i (and_parts (unlisted ns n) _ apart).0 here in
      ap (λ p. p ++ gathered (spliced m (16 * get_or ns i 0 + r) bs) ns) (other_page (get_or ns i 0) r bs (inside_at ns (length m) i parts.1 here) inside n differs)
      ∙ ap (λ l. page m n ++ l) (gathered_splice ns i r bs (and_parts (unlisted ns n) _ apart).1 parts.1 here inside)
      ∙ sym (splice_right (gathered m ns) (16 * i + r) bs (page m n) 16 long (omega (arith, length_gathered ns parts.1)))
      ∙ ap (λ a. spliced (page m n ++ gathered m ns) a bs) next

-- a stretch within one page: it starts where the listed byte a stands, and has as many of `left` bytes as the page has from there on
pub record IsStretch (ns m : List ℕ) (a left start len : ℕ) : Type 0 where
  pub below : a < 16 * length ns
  pub starts : start ≡ 16 * get_or ns (a / 16) 0 + a % 16
  pub lasts : len ≡ min left (16 - a % 16)
  pub whole : all_inside ns (length m) ≡ true

module _ {ns m : List ℕ} {a left start len : ℕ} (s : IsStretch ns m a left start len) where
  place : 16 * (a / 16) + a % 16 ≡ a
  place = omega arith

  pub stretch_within : start + len ≤ length m
  stretch_within = omega (arith, inside_at ns (length m) (a / 16) s.whole (omega arith))

  pub stretch_read : take len (drop a (gathered m ns)) ≡ take len (drop start m)
  stretch_read =
      ap (λ x. take len (drop x (gathered m ns))) (sym place)
      ∙ gathered_part m ns (a / 16) (a % 16) len s.whole (omega arith) (omega arith)
      ∙ ap (λ x. take len (drop x m)) (sym s.starts)

  module _ (bs : List ℕ) (long : length bs ≡ len) where
    pub stretch_written : none_twice ns ≡ true → gathered (spliced m start bs) ns ≡ spliced (gathered m ns) a bs
    stretch_written apart =
        ap (λ x. gathered (spliced m x bs) ns) s.starts
        ∙ gathered_splice m ns (a / 16) (a % 16) bs apart s.whole (omega arith) (omega arith)
        ∙ ap (λ x. spliced (gathered m ns) x bs) place

    pub stretch_others : OthersSame ns m (spliced m start bs)
    stretch_others n other =
        ap (λ x. page (spliced m x bs) n) s.starts
        ∙ other_page m (get_or ns (a / 16) 0) (a % 16) bs (inside_at ns (length m) (a / 16) s.whole (omega arith)) (omega arith) n (unlisted_at n ns (a / 16) other (omega arith))
