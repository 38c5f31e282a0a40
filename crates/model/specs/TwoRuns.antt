-- The law of two runs: what a view can learn of two vaults opened alike, and which releases reach it.
use Rattle.std.specs.Prelude.{◌≡◌, ℕ, Bool, true, false, not, ◌&&◌, ◌||◌, List, map, length, is_some, is_ok, filter, nat_lt}
use Rattle.std.specs.List.{AllByRecursion}
use Rattle.register.specs.Layout.{decoded}
use Rattle.register.specs.declared.label.Label.{Label}
use Rattle.register.specs.declared.certificate.Certificate.{Certificate}
use Rattle.model.specs.Calls.{Call, Reply, read, write, run, hand, tell, seat_of}
use Rattle.model.specs.States.{Policy, State, held, label_of, certificate_of, seat_at, bytes_of}
use Rattle.model.specs.Rules.{accepted}
use Rattle.model.specs.Runs.{Turn, turns, reply_at, final}
use Rattle.model.specs.Opening.{opening, started}

-- the certificate under which the seat of a turn calls
abbrev pub holder : Turn → Certificate
holder t = (seat_at t.before (seat_of t.call)).certificate

-- a view is any mark with any grade
module _ (p : Policy) (v : Label) where
  -- at or below the view's mark, and at or above its grade
  abbrev pub in_view : Label → Bool
  in_view l = p.marks.below l.mark v.mark && p.grades.below v.grade l.grade

  -- sheet k is there, and its label is in view
  abbrev pub sheet_in_view : ℕ → Bool
  sheet_in_view k = nat_lt k (length p.sheets) && in_view (label_of p k)

  -- a seat is in view by its certificate's reading pair, and so is a program; what is no seat is not
  abbrev pub seat_in_view : State → ℕ → Bool
  seat_in_view s i = nat_lt i (length s.seats) && in_view (seat_at s i).certificate.reading

  -- sheet k is a certified program, and it is in view
  abbrev pub program_in_view : ℕ → Bool
  program_in_view k = is_some (certificate_of p k) && in_view (held (certificate_of p k)).reading

  -- a write to a sheet in view, or a hand over to a program in view
  abbrev pub reaches : Call → Bool
  reaches (read i k place buffer) = false
  reaches (write i k place bytes) = sheet_in_view k
  reaches (run i k place buffer) = false
  reaches (hand i k slip) = program_in_view k
  reaches (tell i) = false

  -- a release: accepted, by a seat out of view, and it reaches what is in view
  abbrev pub release : Turn → Bool
  release t = not (seat_in_view t.before (seat_of t.call)) && (accepted p t.before t.call && reaches t.call)

  -- what is not struck: a call of a seat in view, or a release
  abbrev pub counts : Turn → Bool
  counts t = seat_in_view t.before (seat_of t.call) || release t

  -- the turns that are not struck, of a list of calls that begins in the state s
  abbrev pub counted : State → List Call → List Turn
  counted s cs = filter counts (turns p s cs)

  -- the calls that are not struck
  abbrev pub kept : State → List Call → List Call
  kept s cs = map (λ t. t.call) (counted s cs)

  -- how they are answered
  abbrev pub replies : State → List Call → List Reply
  replies s cs = map (reply_at p) (counted s cs)

  -- the turns that are releases
  abbrev pub releases : State → List Call → List Turn
  releases s cs = filter release (turns p s cs)

  -- sheets in view have equal bytes
  abbrev pub SameSheets : State → State → Type 0
  SameSheets s t = (k : ℕ) → sheet_in_view k ≡ true → bytes_of s k ≡ bytes_of t k

  -- everything in view is alike
  pub record Alike (s t : State) : Type 0 where
    pub sheets : SameSheets s t
    -- each seat is in view in both or in neither
    pub both : (i : ℕ) → seat_in_view s i ≡ seat_in_view t i
    -- seats in view have equal certificate, program and slip
    pub seats : (i : ℕ) → seat_in_view s i ≡ true → seat_at s i ≡ seat_at t i

  -- a seat whose reading mark is not at or below the view's mark has a writing grade at or above the floor
  abbrev pub Floored : Turn → Type 0
  Floored t = p.marks.below (holder t).reading.mark v.mark ≡ false → p.grades.below p.floor (holder t).writing.grade ≡ true

-- the law, for two vaults that begin in the states s and t; they have one policy, since the register, the floor and the
-- orders fix it
pub record TwoRuns (p : Policy) (s t : State) : Type 0 where
  -- where the sheets in view begin alike and the calls that are not struck are the same, those are answered alike,
  -- and everything in view ends alike
  pub alike : (v : Label) → SameSheets p v s t → (cs ds : List Call) → kept p v s cs ≡ kept p v t ds →
      (replies p v s cs ≡ replies p v t ds) × Alike p v (final p s cs) (final p t ds)
  -- each release from above the view's mark is made at or above the floor, in either run
  pub floored : (v : Label) (cs ds : List Call) → AllByRecursion (Floored p v) (releases p v s cs) × AllByRecursion (Floored p v) (releases p v t ds)

-- the register opens a closed vault over these contents, with the orders and the floor of the policy
abbrev pub Opens : Policy → List ℕ → List (List ℕ) → Type 0
Opens p bs contents = is_ok (opening p.marks p.grades bs p.floor contents false) ≡ true

-- the law for a vault just opened by the register, in the state s, beside every other vault that the register opens
abbrev pub Law : Policy → State → List ℕ → Type 0
Law p s bs = (others : List (List ℕ)) → Opens p bs others → TwoRuns p s (started (decoded bs) others)
