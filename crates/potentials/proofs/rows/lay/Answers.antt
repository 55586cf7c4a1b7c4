use Rattle.potentials.proofs.Laid.{differ_turn}
use lib.ListN.{length-set}
use mathlib.Core.Path.{sym, ◌∙◌}
use native.Mathlib.Omega.{arith}
use Rattle.potentials.proofs.rows.lay.Goals as goal

pub loop-t-preserved : goal.loop-t-preserved
loop-t-preserved c = (omega (arith, c.loop-t-test.true), simp (length-set, c.loop-t.invariant.1), differ_turn c.loop-t.invariant.2 (omega (arith, c.requires.0, c.loop-t-test.true)) (c.loop-t.invariant.1 ∙ c.requires.2) c.first_of-i.ensures c.second_of-j.ensures (sym c.is_absent.ensures ∙ c.if-is_absent.false) c.spot_at.ensures c.spot_at-in-loop-t.ensures c.sub-d.ensures)
