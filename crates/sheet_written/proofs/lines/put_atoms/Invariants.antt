use Rattle.sheet_written.proofs.OneAfterAnother.{AtomsPut}
use Rattle.sheet_written.proofs.lines.put_atoms.Given as goal

abbrev pub invariant-loop-i : goal.invariant-loop-i
invariant-loop-i l = AtomsPut l.xs l.initial.out l.out l.i
