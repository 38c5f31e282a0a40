use Rattle.std.proofs.Common.{rules}
use lib.Bits.{bit_and, and_mask}
use Rattle.orders.proofs.Inclusion.{included_mask}
use Rattle.orders.proofs.compartments.within.Goals as goal

pub returns : goal.returns
returns c =
    let both = and_mask (bit_and c.args.a c.args.b) 60 in
    let first = and_mask c.args.a 60 in
    let is = included_mask c.args.a c.args.b in
    search rules
