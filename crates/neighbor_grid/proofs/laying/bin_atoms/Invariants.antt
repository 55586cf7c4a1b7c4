use Rattle.neighbor_grid.proofs.Loops.{Filling}
use Rattle.neighbor_grid.proofs.laying.bin_atoms.Given as goal

abbrev pub invariant-loop-i : goal.invariant-loop-i
invariant-loop-i l = Filling l.ruler l.g l.xs l.initial.places l.places l.i
