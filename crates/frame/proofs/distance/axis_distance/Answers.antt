use Rattle.bins.specs.Edge.{gap, distance}
use native.Mathlib.Omega.{arith}
use Rattle.frame.proofs.distance.axis_distance.Goals as goal

pub overflow_sub-back : goal.overflow_sub-back
unfolding gap
overflow_sub-back c = omega arith

pub returns-then-back-d : goal.returns-then-back-d
unfolding distance gap
returns-then-back-d c = simp c.if-round.true (omega arith)

pub returns-else-back-d : goal.returns-else-back-d
unfolding distance gap
returns-else-back-d c = simp c.if-round.true (omega arith)

pub returns : goal.returns
unfolding distance gap
returns c = simp c.if-round.false (omega arith)
