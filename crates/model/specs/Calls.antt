-- What a seat can call, and what it is answered.
use Rattle.std.specs.Prelude.{ℕ, List, [], Result}
use Rattle.refusals.specs.declared.refusal.Refusal.{Refusal}

-- a call, by its kind, its numbers, and the bytes or the buffer that it brings; hand is the hand over
pub data Call : Type 0 where
  read : (seat sheet place : ℕ) (buffer : List ℕ) → Call
  write : (seat sheet place : ℕ) (bytes : List ℕ) → Call
  run : (seat sheet place : ℕ) (buffer : List ℕ) → Call
  hand : (seat sheet slip : ℕ) → Call
  tell : (seat : ℕ) → Call

-- the numbers that an accepted call answers (tell: running program and slip; the others: none), or the refusal
abbrev pub Answer : Type 0
Answer = Result (List ℕ) Refusal

-- a call's answer, and the caller's buffer afterwards
pub record Reply : Type 0 where
  pub answer : Answer
  pub buffer : List ℕ

-- the seat that a call names
abbrev pub seat_of : Call → ℕ
seat_of (read seat sheet place buffer) = seat
seat_of (write seat sheet place bytes) = seat
seat_of (run seat sheet place buffer) = seat
seat_of (hand seat sheet slip) = seat
seat_of (tell seat) = seat

-- the buffer that a call brings
abbrev pub brought : Call → List ℕ
brought (read seat sheet place buffer) = buffer
brought (write seat sheet place bytes) = []
brought (run seat sheet place buffer) = buffer
brought (hand seat sheet slip) = []
brought (tell seat) = []
