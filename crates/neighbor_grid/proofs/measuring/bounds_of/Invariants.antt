use Rattle.neighbor_grid.proofs.Loops.{Bounded}
use Rattle.neighbor_grid.proofs.measuring.bounds_of.Given as goal

abbrev pub invariant-loop-i : goal.invariant-loop-i
invariant-loop-i l = Bounded l.xs l.lo l.hi l.i
