use Rattle.potentials.proofs.Near.{recalled_turn}
use native.Mathlib.Omega.{arith}
use Rattle.potentials.proofs.lennard_jones.number_all.Goals as goal

pub loop-m-preserved : goal.loop-m-preserved
loop-m-preserved c = (omega (arith, c.loop-m-test.true), recalled_turn _ _ c.args.species.now c.args.table.now c.args.from (omega (arith, c.loop-m-test.true, c.requires.rows_there.few)) c.loop-m.invariant.1 c.number_at.ensures)
