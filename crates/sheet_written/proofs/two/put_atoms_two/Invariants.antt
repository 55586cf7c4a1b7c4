use Rattle.sheet_written.proofs.TwoAfterAnother.{TwosPut}
use Rattle.sheet_written.proofs.two.put_atoms_two.Given as goal

abbrev pub invariant-loop-i : goal.invariant-loop-i
invariant-loop-i l = TwosPut l.xs l.initial.out l.out l.i
