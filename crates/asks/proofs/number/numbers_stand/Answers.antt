use Rattle.asks.proofs.Digits.{by_last, reads_back}
use Rattle.asks.proofs.number.numbers_stand.Goals as goal

pub returns : goal.returns
returns c = record { back = reads_back; last = by_last }
