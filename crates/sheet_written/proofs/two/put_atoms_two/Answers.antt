use Rattle.sheet_written.proofs.TwoAfterAnother.{twos_begin, twos_turn, twos_end}
use Rattle.sheet_written.proofs.two.put_atoms_two.Goals as goal

pub loop-i-init : goal.loop-i-init
loop-i-init c = twos_begin _ _

pub loop-i-preserved : goal.loop-i-preserved
loop-i-preserved c = twos_turn _ _ c.loop-i.invariant c.loop-i-test.true c.put_atom_two.ensures

pub returns : goal.returns
returns c = twos_end _ _ c.loop-i.invariant c.loop-i-test.false
