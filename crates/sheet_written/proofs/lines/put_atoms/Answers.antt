use Rattle.sheet_written.proofs.OneAfterAnother.{atoms_begin, atoms_turn, atoms_end}
use Rattle.sheet_written.proofs.lines.put_atoms.Goals as goal

pub loop-i-init : goal.loop-i-init
loop-i-init c = atoms_begin _ _

pub loop-i-preserved : goal.loop-i-preserved
loop-i-preserved c = atoms_turn _ _ c.loop-i.invariant c.loop-i-test.true c.put_atom.ensures

pub returns : goal.returns
returns c = atoms_end _ _ c.loop-i.invariant c.loop-i-test.false
