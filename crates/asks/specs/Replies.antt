-- What the day run prints of an answer.
use Rattle.std.specs.Prelude.{ℕ, cond, ◌&&◌, List, [], ◌++◌, map, Ok, Err, codes, decimal, nat_le}
use Rattle.std.specs.List.{flat_map}
use Rattle.refusals.specs.Refusals.{number_of}
use Rattle.model.specs.Calls as calls
use Rattle.model.specs.Calls.{Call, Reply, read, write, run, hand, tell}
use Rattle.asks.specs.declared.answer.Answer.{Answer}
use Rattle.asks.specs.declared.answer.Answer.TheVariants.{Malformed, Refused, Done, Filled, Told, Opened}

-- the bytes 32 to 126 as they are, others as a dot
abbrev pub visible : ℕ → ℕ
visible b = cond (nat_le 32 b && nat_le b 126) b 46

-- read and run show their buffer after a space
abbrev pub buffer_text : Call → List ℕ → List ℕ
buffer_text (read seat sheet place brought) buffer = codes " " ++ map visible buffer
buffer_text (write seat sheet place bytes) buffer = []
buffer_text (run seat sheet place brought) buffer = codes " " ++ map visible buffer
buffer_text (hand seat sheet slip) buffer = []
buffer_text (tell seat) buffer = []

-- a refusal by its number; otherwise `ok`, each number answered after a space, and the buffer
abbrev pub answer_text : Call → List ℕ → calls.Answer → List ℕ
answer_text c buffer (Err refusal) = codes "no " ++ decimal (number_of refusal)
answer_text c buffer (Ok numbers) = codes "ok" ++ (flat_map (λ n. codes " " ++ decimal n) numbers ++ buffer_text c buffer)

-- what is printed of a call's reply
abbrev pub text : Call → Reply → List ℕ
text c reply = answer_text c reply.buffer reply.answer

-- a printed line, case by case
abbrev pub line_text : Answer → List ℕ
line_text Malformed = codes "?"
line_text (Refused refusal) = codes "no " ++ decimal (number_of refusal)
line_text Done = codes "ok"
line_text (Filled buffer) = codes "ok " ++ map visible buffer.now
line_text (Told program slip) = codes "ok " ++ (decimal program ++ (codes " " ++ decimal slip))
line_text (Opened number) = codes "open " ++ decimal number
