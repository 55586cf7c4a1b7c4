use Rattle.potentials.proofs.Laid.{inner_turn}
use lib.ListN.{length-set}
use native.Mathlib.Omega.{arith}
use Rattle.potentials.proofs.rows.settle.Goals as goal

pub loop-t-preserved : goal.loop-t-preserved
loop-t-preserved c = (omega (arith, c.loop-t-test.true), simp (length-set, c.loop-t.invariant.1), inner_turn c.loop-t.invariant.2 (omega (arith, c.requires.0, c.requires.1, c.requires.2, c.loop-t-test.true, c.loop-t.invariant.1)) c.is_inner-ok.ensures c.settled.ensures)
