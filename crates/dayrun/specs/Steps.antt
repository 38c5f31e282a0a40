-- One line of the day run.
use Rattle.std.specs.Prelude.{ℕ, List, Some, None, codes, Option}
use Rattle.model.specs.Calls.{Call}
use Rattle.model.specs.States.{Policy, State}
use Rattle.model.specs.Rules.{after, reply}
use Rattle.asks.specs.Replies.{text}

-- the reply to a call, as it is printed
abbrev pub call_text : Policy → State → Call → List ℕ
call_text p s c = text c (reply p s c)

-- what is printed for a line
abbrev pub ask_text : Policy → State → Option Call → List ℕ
ask_text p s None = codes "?"
ask_text p s (Some c) = call_text p s c

-- the state after it
abbrev pub ask_after : Policy → State → Option Call → State
ask_after p s None = s
ask_after p s (Some c) = after p s c
