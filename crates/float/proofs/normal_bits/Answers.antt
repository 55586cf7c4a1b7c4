use Rattle.float.specs.Steps.{RootBits}
use Rattle.std.proofs.Common.{subst}
use lib.Ieee.{Float}
use Rattle.float.proofs.normal_bits.Goals as goal

pub returns : goal.returns
returns c = subst (λ (y : Float). RootBits y c.quick_even.result) c.normal_of-e.ensures.same c.quick_even.ensures
