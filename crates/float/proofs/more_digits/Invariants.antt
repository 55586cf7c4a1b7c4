-- `float::more_digits` meets its contract. The loop's invariant is `Turn` of `proofs/WholeRoots.antt`: what is found, down to a place that is a power of 4. Assumes nothing.
use Rattle.float.proofs.WholeRoots.{Turn}
use Rattle.float.proofs.more_digits.Given as goal

abbrev pub invariant-loop-b : goal.invariant-loop-b
invariant-loop-b l = Turn l.v l.s l.y l.b

abbrev pub decreases-loop-b : goal.decreases-loop-b
decreases-loop-b l = l.b
