-- What changing one seat or one sheet does to what a view sees.
use Rattle.std.proofs.Common.{◌≡◌, ℕ, ◌<◌, false, ◌&&◌, ltb, ◌≢◌, List, [], length, sym, refl, ap, ◌∙◌, ⊎_elim, length-set, get_or-set_other, get_or-set_same}
use Rattle.std.proofs.lemmas.Bool.{cases_eq, both_ways, lt-ltb}
use Rattle.stores.specs.Splices.{spliced}
use Rattle.register.specs.declared.label.Label.{Label}
use Rattle.model.specs.States.{Policy, State, blank_seat, seat_at, bytes_of, with_seat, with_bytes}
use Rattle.model.specs.TwoRuns.{in_view, sheet_in_view, seat_in_view, Alike}
use Rattle.model.specs.declared.seat.Seat.{Seat}

pub alike_refl : (p : Policy) (v : Label) (s : State) → Alike p v s s
alike_refl p v s = record { sheets = λ k h. refl; both = λ i. refl; seats = λ i h. refl }

pub alike_sym : {p : Policy} {v : Label} {s t : State} → Alike p v s t → Alike p v t s
alike_sym a = record {
  sheets = λ k h. sym (a.sheets k h);
  both = λ i. sym (a.both i);
  seats = λ i h. sym (a.seats i (a.both i ∙ h));
}

pub alike_trans : {p : Policy} {v : Label} {s t u : State} → Alike p v s t → Alike p v t u → Alike p v s u
alike_trans a b = record {
  sheets = λ k h. a.sheets k h ∙ b.sheets k h;
  both = λ i. a.both i ∙ b.both i;
  seats = λ i h. a.seats i h ∙ b.seats i (sym (a.both i) ∙ h);
}

module _ (p : Policy) (v : Label) where
  -- the record that a changed seat has
  seat_same : (s : State) (i : ℕ) (x : Seat) → i < length s.seats → seat_at (with_seat s i x) i ≡ x
  seat_same s i x h = get_or-set_same s.seats i x blank_seat h

  seat_other : (s : State) (i j : ℕ) (x : Seat) → j ≢ i → seat_at (with_seat s i x) j ≡ seat_at s j
  seat_other s i j x h = get_or-set_other s.seats i j x blank_seat h

  seen_same : (s : State) (i : ℕ) (x : Seat) → i < length s.seats → seat_in_view p v (with_seat s i x) i ≡ in_view p v x.certificate.reading
  seen_same s i x h =
      ap (λ n. ltb i n && in_view p v (seat_at (with_seat s i x) i).certificate.reading) (length-set s.seats i x)
      ∙ ap (λ b. b && in_view p v (seat_at (with_seat s i x) i).certificate.reading) (lt-ltb _ _ h)
      ∙ ap (λ y. in_view p v y.certificate.reading) (seat_same s i x h)

  seen_other : (s : State) (i j : ℕ) (x : Seat) → j ≢ i → seat_in_view p v (with_seat s i x) j ≡ seat_in_view p v s j
  seen_other s i j x h =
      ap (λ n. ltb j n && in_view p v (seat_at (with_seat s i x) j).certificate.reading) (length-set s.seats i x)
      ∙ ap (λ y. ltb j (length s.seats) && in_view p v y.certificate.reading) (seat_other s i j x h)

  -- a seat out of view that stays out of view
  pub hidden_seat : (s : State) (i : ℕ) (x : Seat) → i < length s.seats → seat_in_view p v s i ≡ false → in_view p v x.certificate.reading ≡ false → Alike p v s (with_seat s i x)
  hidden_seat s i x h out still = record {
    sheets = λ k e. refl;
    both = λ j. ⊎_elim
        (λ e. ap (seat_in_view p v s) e ∙ out ∙ sym still ∙ sym (seen_same s i x h) ∙ ap (seat_in_view p v (with_seat s i x)) (sym e))
        (λ ne. sym (seen_other s i j x ne)) (cases_eq j i);
    seats = λ j seen. ⊎_elim
        (λ e. absurd (both_ways _ out (ap (seat_in_view p v s) (sym e) ∙ seen)))
        (λ ne. sym (seat_other s i j x ne)) (cases_eq j i);
  }

  -- both states get one record
  pub same_seat : (s t : State) (i : ℕ) (x y : Seat) → Alike p v s t → i < length s.seats → i < length t.seats → x ≡ y → Alike p v (with_seat s i x) (with_seat t i y)
  same_seat s t i x y a h k eq = record {
    sheets = a.sheets;
    both = λ j. ⊎_elim
        (λ e. ap (seat_in_view p v (with_seat s i x)) e ∙ seen_same s i x h ∙ ap (λ z. in_view p v z.certificate.reading) eq ∙ sym (seen_same t i y k) ∙ ap (seat_in_view p v (with_seat t i y)) (sym e))
        (λ ne. seen_other s i j x ne ∙ a.both j ∙ sym (seen_other t i j y ne)) (cases_eq j i);
    seats = λ j seen. ⊎_elim
        (λ e. ap (seat_at (with_seat s i x)) e ∙ seat_same s i x h ∙ eq ∙ sym (seat_same t i y k) ∙ ap (seat_at (with_seat t i y)) (sym e))
        (λ ne. seat_other s i j x ne ∙ a.seats j (sym (seen_other s i j x ne) ∙ seen) ∙ sym (seat_other t i j y ne)) (cases_eq j i);
  }

  -- a sheet out of view is written
  pub hidden_bytes : (s : State) (k : ℕ) (bytes : List ℕ) → sheet_in_view p v k ≡ false → Alike p v s (with_bytes s k bytes)
  hidden_bytes s k bytes out = record {
    sheets = λ j seen. sym (get_or-set_other s.contents k j bytes [] (λ e. both_ways _ out (ap (sheet_in_view p v) (sym e) ∙ seen)));
    both = λ i. refl;
    seats = λ i h. refl;
  }

  -- both states get the same bytes in one place
  pub same_bytes : (s t : State) (k place : ℕ) (bytes : List ℕ) → Alike p v s t → k < length s.contents → k < length t.contents →
      Alike p v (with_bytes s k (spliced (bytes_of s k) place bytes)) (with_bytes t k (spliced (bytes_of t k) place bytes))
  same_bytes s t k place bytes a h m = record {
    sheets = λ j seen. ⊎_elim
        (λ e. ap (bytes_of (with_bytes s k (spliced (bytes_of s k) place bytes))) e
        ∙ get_or-set_same s.contents k _ [] h
        ∙ ap (λ old. spliced old place bytes) (a.sheets k (ap (sheet_in_view p v) (sym e) ∙ seen))
        ∙ sym (get_or-set_same t.contents k _ [] m)
        ∙ ap (bytes_of (with_bytes t k (spliced (bytes_of t k) place bytes))) (sym e))
        (λ ne. get_or-set_other s.contents k j _ [] ne ∙ a.sheets j seen ∙ sym (get_or-set_other t.contents k j _ [] ne)) (cases_eq j k);
    both = a.both;
    seats = a.seats;
  }
