use Rattle.std.proofs.Common.{◌<◌, length, arith, rules}
use Rattle.asks.proofs.Digits.{parted}
use Rattle.asks.proofs.number.+value.Goals as goal

pub value-requires : goal.value-requires
value-requires t c =
    let some : 0 < length c.args.digits.now = search rules in
    let p = parted c.args.digits.now some c.requires.digits in
    search (rules, p.digits)

pub overflow_sub-last-in-len1-up : goal.overflow_sub-last-in-len1-up
overflow_sub-last-in-len1-up t c =
    let some : 0 < length c.args.digits.now = search rules in
    (parted c.args.digits.now some c.requires.digits).low

pub returns-in-len1-up : goal.returns-in-len1-up
returns-in-len1-up t c =
    let some : 0 < length c.args.digits.now = search rules in
    let p = parted c.args.digits.now some c.requires.digits in
    record {
      value = omega (arith, p.is, c.value.ensures.value, c.from.ensures);
      bound = omega (arith, p.power, p.low, p.high, c.value.ensures.bound, c.from.ensures);
    }
