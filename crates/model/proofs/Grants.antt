-- What an accepted call tells: which rules held, that its seat and its sheet are there, and that its bytes fit.
use Rattle.std.proofs.Common.{◌≡◌, ℕ, ◌+◌, ◌<◌, ◌≤◌, Bool, true, false, List, length, is_some}
use Rattle.std.specs.List.{AllByRecursion}
use Rattle.std.proofs.lemmas.Bool.{leb-false, ltb-false, not-false, and_parts}
use Rattle.refusals.proofs.Testing.{none_fits}
use Rattle.register.specs.declared.certificate.Certificate.{Certificate}
use Rattle.model.specs.Calls.{Call, read, write, run, hand, seat_of}
use Rattle.model.specs.States.{Policy, State, held, label_of, certificate_of, seat_at, bytes_of}
use Rattle.model.specs.Rules.{kind_tests, tests, numbers, accepted}

-- the first mark or grade is at or below the second
abbrev pub mark_below : Policy → ℕ → ℕ → Bool
mark_below p a b = p.marks.below a b

abbrev pub grade_below : Policy → ℕ → ℕ → Bool
grade_below p a b = p.grades.below a b

-- the calls that fill a buffer, by the grade that is set against the sheet's
pub record Seen (p : Policy) (c : Certificate) (grade k : ℕ) : Type 0 where
  pub sheet : k < length p.sheets
  pub mark : mark_below p (label_of p k).mark c.reading.mark ≡ true
  pub grade_holds : grade_below p grade (label_of p k).grade ≡ true

pub record Written (p : Policy) (s : State) (c : Certificate) (k place n : ℕ) : Type 0 where
  pub mark : mark_below p c.writing.mark (label_of p k).mark ≡ true
  pub there : k < length s.contents
  pub room : place + n ≤ length (bytes_of s k)

pub record Handed (p : Policy) (c : Certificate) (k : ℕ) : Type 0 where
  pub certified : is_some (certificate_of p k) ≡ true
  pub mark : mark_below p c.writing.mark (held (certificate_of p k)).reading.mark ≡ true

module _ (p : Policy) (s : State) where
  pub seated : (c : Call) → accepted p s c ≡ true → seat_of c < length s.seats
  seated c g = leb-false _ _ (none_fits (tests p s c) (numbers (seat_at s (seat_of c)) c) g).1.0

  kind_passed : (c : Call) → accepted p s c ≡ true → AllByRecursion (λ t. t.fits ≡ false) (kind_tests p s.contents (seat_at s (seat_of c)).certificate c)
  kind_passed c g = (none_fits (tests p s c) (numbers (seat_at s (seat_of c)) c) g).1.1

  pub read_grants : (i k place : ℕ) (buffer : List ℕ) → accepted p s (read i k place buffer) ≡ true →
      Seen p (seat_at s i).certificate (seat_at s i).certificate.reading.grade k
  read_grants i k place buffer g =
      let f = kind_passed (read i k place buffer) g in
      record { sheet = leb-false _ _ f.0; mark = not-false _ f.1.0; grade_holds = not-false _ f.1.1.0 }

  pub run_grants : (i k place : ℕ) (buffer : List ℕ) → accepted p s (run i k place buffer) ≡ true →
      Seen p (seat_at s i).certificate (seat_at s i).certificate.writing.grade k
  run_grants i k place buffer g =
      let f = kind_passed (run i k place buffer) g in
      record { sheet = leb-false _ _ f.0; mark = not-false _ f.1.0; grade_holds = not-false _ f.1.1.0 }

  pub write_grants : (i k place : ℕ) (bytes : List ℕ) → accepted p s (write i k place bytes) ≡ true →
      Written p s (seat_at s i).certificate k place (length bytes)
  write_grants i k place bytes g =
      let f = kind_passed (write i k place bytes) g in
      record { mark = not-false _ f.1.1.0; there = leb-false _ _ f.1.1.1.1.0; room = ltb-false _ _ f.1.1.1.1.1.0 }

  pub hand_grants : (i k slip : ℕ) → accepted p s (hand i k slip) ≡ true → Handed p (seat_at s i).certificate k
  hand_grants i k slip g =
      let f = kind_passed (hand i k slip) g in
      record { certified = not-false _ f.1.0; mark = (and_parts _ _ (not-false _ f.1.1.0)).1 }
