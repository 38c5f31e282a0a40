-- A list of calls, made one after the other.
use Rattle.std.specs.Prelude.{List, [], ◌∷◌}
use Rattle.model.specs.Calls.{Call, Reply}
use Rattle.model.specs.States.{Policy, State}
use Rattle.model.specs.Rules.{after, reply}

-- a call, with the state in which it is made
pub record Turn : Type 0 where
  pub before : State
  pub call : Call

-- the turns of a list of calls, the first of them made in the state s
abbrev pub turns : Policy → State → List Call → List Turn
turns p s [] = []
turns p s (c ∷ cs) = record { before = s; call = c } ∷ turns p (after p s c) cs

-- how the call of a turn is answered
abbrev pub reply_at : Policy → Turn → Reply
reply_at p t = reply p t.before t.call

-- the state after the whole list
abbrev pub final : Policy → State → List Call → State
final p s [] = s
final p s (c ∷ cs) = final p (after p s c) cs
