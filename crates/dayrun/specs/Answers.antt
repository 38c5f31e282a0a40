-- What is printed of what a call returned.
use Rattle.std.specs.Prelude.{ℕ, List, Ok, Err, Result}
use Rattle.refusals.specs.declared.refusal.Refusal.{Refusal}
use Rattle.asks.specs.Replies.{line_text}
use Rattle.asks.specs.declared.answer.Answer.{Answer}
use Rattle.asks.specs.declared.answer.Answer.TheVariants.{Refused}

-- the answer's line, or the refusal's
abbrev pub said_line : Result Answer Refusal → List ℕ
said_line (Ok answer) = line_text answer
said_line (Err refusal) = line_text (Refused refusal)
