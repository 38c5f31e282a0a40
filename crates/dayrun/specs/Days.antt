-- What the day run prints: the number of the opening, and then the replies of the model's run over the lines that ask for
-- a call. It is the run that the law of two runs speaks of.
use Rattle.std.specs.Prelude.{ℕ, List, [], ◌∷◌, ◌++◌, map, Some, None, Ok, Err, codes, Option, Result}
use Rattle.std.specs.List.{flat_map}
use Rattle.orders.specs.declared.order.Order.{Ghosts as Ordering}
use Rattle.stores.specs.declared.store.Store.{Ghosts as Storage}
use Rattle.refusals.specs.Refusals.{number_of}
use Rattle.refusals.specs.declared.refusal.Refusal.{Refusal}
use Rattle.register.specs.Tables.{Book}
use Rattle.model.specs.Calls.{Call}
use Rattle.model.specs.States.{Policy, State}
use Rattle.model.specs.Runs.{Turn, turns, reply_at}
use Rattle.model.specs.Opening.{fixed, started}
use Rattle.asks.specs.Lines.{parsed}
use Rattle.asks.specs.Replies.{text, line_text}
use Rattle.asks.specs.Rows.{rows}
use Rattle.asks.specs.declared.answer.Answer.TheVariants.{Opened}
use Rattle.vault.specs.Meaning.{policy, state, opening_of, answer_of}
use Rattle.vault.specs.declared.vault.Vault.{Vault}

-- what each line of an input asks for: a call, or nothing where it is malformed
abbrev pub asks_of : List ℕ → List (Option Call)
asks_of input = map parsed (rows input)

-- the calls among them, in their order
abbrev pub calls_of : List (Option Call) → List Call
calls_of [] = []
calls_of (None ∷ asks) = calls_of asks
calls_of (Some c ∷ asks) = c ∷ calls_of asks

-- one printed line for each line: `?` for a malformed one, and for each other the reply of the next turn
abbrev pub answers : Policy → List (Option Call) → List Turn → List (List ℕ)
answers p [] ts = []
answers p (None ∷ asks) ts = codes "?" ∷ answers p asks ts
answers p (Some c ∷ asks) [] = []
answers p (Some c ∷ asks) (t ∷ ts) = text t.call (reply_at p t) ∷ answers p asks ts

-- a printed line, with the byte that ends it
abbrev pub ended : List ℕ → List ℕ
ended line = line ++ 10 ∷ []

-- what is printed for these lines: the replies of the run over their calls, the first of them made in the state s
abbrev pub asks_text : Policy → State → List (Option Call) → List ℕ
asks_text p s asks = flat_map ended (answers p asks (turns p s (calls_of asks)))

-- what is printed for an input
abbrev pub printed : Policy → State → List ℕ → List ℕ
printed p s input = asks_text p s (asks_of input)

-- the number of an opening's answer, 0 where it is accepted
abbrev pub opening_number : Result (Unit {0}) Refusal → ℕ
opening_number (Ok u) = 0
opening_number (Err e) = number_of e

module _ {M G S : Type 0} (m : Ordering M) (g : Ordering G) (s : Storage S) (v : Vault M G S) where
  -- the policy that an opening leaves
  abbrev pub opened_policy : ℕ → Result Book Refusal → Policy
  opened_policy floor (Ok b) = fixed (policy m g v).marks (policy m g v).grades b floor
  opened_policy floor (Err e) = policy m g v

  -- the seats and sheets that it leaves
  abbrev pub opened_state : Result Book Refusal → State
  opened_state (Ok b) = started b (state s v).contents
  opened_state (Err e) = state s v

  -- the text of a day
  abbrev pub day_text : List ℕ → ℕ → List ℕ → List ℕ
  day_text bs floor input = let o = opening_of m g s v bs floor in
      ended (line_text (Opened (opening_number (answer_of o)))) ++ printed (opened_policy floor o) (opened_state o) input
