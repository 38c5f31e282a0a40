-- What each call of a seat is refused for, what it answers, what it fills the buffer with, and what it changes.
use Rattle.std.specs.Prelude.{ℕ, Bool, cond, not, List, [], ◌∷◌, ◌++◌, length, take, drop, is_some, is_ok, nat_le}
use Rattle.refusals.specs.Refusals.{Test, on, checked}
use Rattle.refusals.specs.declared.refusal.Refusal.TheVariants.{Closed, NoSeat, NoSheet, Certified, NotCertified}
use Rattle.stores.specs.Sheets.{reach_tests}
use Rattle.stores.specs.Splices.{spliced}
use Rattle.register.specs.declared.certificate.Certificate.{Certificate}
use Rattle.model.specs.Access.{read_access, write_access, run_access, hand_access}
use Rattle.model.specs.Calls.{Call, Answer, Reply, read, write, run, hand, tell, seat_of, brought}
use Rattle.model.specs.States.{Policy, State, held, label_of, certificate_of, seat_at, bytes_of, with_seat, with_bytes}
use Rattle.model.specs.declared.seat.Seat.{Seat}

module _ (p : Policy) where
  -- the register has no sheet k
  abbrev pub no_sheet : ℕ → Test
  no_sheet k = on (nat_le (length p.sheets) k) NoSheet

  -- what is tested of sheet k, in the order in which it is tested, for a seat under the certificate c: that it is there,
  -- that it is a certified program or none, and the rules of access
  module _ (c : Certificate) where
    abbrev pub read_rules : (sheet : ℕ) → List Test
    read_rules k = no_sheet k ∷ read_access p.marks p.grades c (label_of p k)

    abbrev pub write_rules : (sheet : ℕ) → List Test
    write_rules k = no_sheet k ∷ on (is_some (certificate_of p k)) Certified ∷ write_access p.marks p.grades c (label_of p k)

    abbrev pub run_rules : (sheet : ℕ) → List Test
    run_rules k = no_sheet k ∷ run_access p.marks p.grades c (label_of p k)

    abbrev pub hand_rules : (sheet : ℕ) → List Test
    hand_rules k =
        no_sheet k
        ∷ on (not (is_some (certificate_of p k))) NotCertified
        ∷ hand_access p.marks p.grades c (label_of p k) (held (certificate_of p k))

  -- the tests of a call by its kind: its rules, and then, where bytes are moved, the store's own tests
  abbrev pub kind_tests : List (List ℕ) → Certificate → Call → List Test
  kind_tests contents c (read i k place buffer) = read_rules c k ++ reach_tests contents k place (length buffer)
  kind_tests contents c (write i k place bytes) = write_rules c k ++ reach_tests contents k place (length bytes)
  kind_tests contents c (run i k place buffer) = run_rules c k ++ reach_tests contents k place (length buffer)
  kind_tests contents c (hand i k slip) = hand_rules c k
  kind_tests contents c (tell i) = []

-- the numbers that an accepted call answers
abbrev pub numbers : Seat → Call → List ℕ
numbers x (read i k place buffer) = []
numbers x (write i k place bytes) = []
numbers x (run i k place buffer) = []
numbers x (hand i k slip) = []
numbers x (tell i) = x.program ∷ x.slip ∷ []

module _ (p : Policy) (s : State) where
  -- an open vault, and a seat
  abbrev pub seat_tests : (seat : ℕ) → List Test
  seat_tests i = on (not p.is_open) Closed ∷ on (nat_le (length s.seats) i) NoSeat ∷ []

  -- all tests of a call, in their order
  abbrev pub tests : Call → List Test
  tests c = seat_tests (seat_of c) ++ kind_tests p s.contents (seat_at s (seat_of c)).certificate c

  -- the first refusal that fits, or else the numbers
  abbrev pub answer : Call → Answer
  answer c = checked (tests c) (numbers (seat_at s (seat_of c)) c)

  -- whether it is answered, and not refused
  abbrev pub accepted : Call → Bool
  accepted c = is_ok (answer c)

  -- what an accepted call leaves: run changes the seat's program only, hand over its whole record
  abbrev pub effect : Call → State
  effect (read i k place buffer) = s
  effect (write i k place bytes) = with_bytes s k (spliced (bytes_of s k) place bytes)
  effect (run i k place buffer) = with_seat s i (record { certificate = (seat_at s i).certificate; program = k; slip = (seat_at s i).slip })
  effect (hand i k slip) = with_seat s i (record { certificate = held (certificate_of p k); program = k; slip = slip })
  effect (tell i) = s

  -- what an accepted call fills the buffer with
  abbrev pub filled : Call → List ℕ
  filled (read i k place buffer) = take (length buffer) (drop place (bytes_of s k))
  filled (write i k place bytes) = []
  filled (run i k place buffer) = take (length buffer) (drop place (bytes_of s k))
  filled (hand i k slip) = []
  filled (tell i) = []

  -- the seats and sheets after a call; a refusal changes nothing
  abbrev pub after : Call → State
  after c = cond (accepted c) (effect c) s

  -- how a call is answered; a refusal leaves the buffer as it was brought
  abbrev pub reply : Call → Reply
  reply c = record { answer = answer c; buffer = cond (accepted c) (filled c) (brought c) }
