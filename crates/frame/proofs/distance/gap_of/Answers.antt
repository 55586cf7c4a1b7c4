use Rattle.bins.specs.Edge.{gap}
use native.Mathlib.Omega.{arith}
use Rattle.frame.proofs.distance.gap_of.Goals as goal

pub returns-then-a-b : goal.returns-then-a-b
unfolding gap
returns-then-a-b c = omega arith

pub returns-else-a-b : goal.returns-else-a-b
unfolding gap
returns-else-a-b c = omega arith
