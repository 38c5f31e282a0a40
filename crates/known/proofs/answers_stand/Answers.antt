use Rattle.std.proofs.Common.{refl}
use Rattle.orders.specs.Compartments.{included}
use Rattle.known.proofs.answers_stand.Goals as goal

pub returns : goal.returns
unfolding included
returns c = refl
