use Rattle.frame.proofs.Plans.{Filling}
use Rattle.frame.proofs.laying.bin_atoms.Given as goal

abbrev pub invariant-loop-i : goal.invariant-loop-i
invariant-loop-i l = Filling l.f l.xs l.initial.places l.places l.i
