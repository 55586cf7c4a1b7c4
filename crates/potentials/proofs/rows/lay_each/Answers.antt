use Rattle.potentials.proofs.Laid.{rowed_turn}
use mathlib.Core.Path.{◌∙◌}
use native.Mathlib.Omega.{arith}
use Rattle.potentials.proofs.rows.lay_each.Goals as goal

pub loop-t-preserved : goal.loop-t-preserved
loop-t-preserved c = (omega (arith, c.loop-t-test.true), c.put_row.auto.ways ∙ c.loop-t.invariant.1, rowed_turn _ c.loop-t.invariant.2 (omega (arith, c.requires.0, c.loop-t-test.true)) (c.loop-t.invariant.1 ∙ c.requires.2) c.first_of-i.ensures c.second_of-j.ensures c.way_of-d.ensures c.put_row.ensures)
