use Rattle.bins.specs.Edge.{bins_on}
use native.Mathlib.Nat.{div-le_self}
use native.Mathlib.Omega.{arith}
use Rattle.frame.proofs.laying.bins_on.Goals as goal

pub returns-then-n-lt1 : goal.returns-then-n-lt1
unfolding bins_on
returns-then-n-lt1 c = omega (arith, div-le_self c.args.edge c.args.radius)

pub returns-else-n-lt1 : goal.returns-else-n-lt1
unfolding bins_on
returns-else-n-lt1 c = omega (arith, div-le_self c.args.edge c.args.radius)
