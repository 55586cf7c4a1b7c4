use Rattle.potentials.proofs.Near.{near_begin, near_turn, near_kept}
use lib.ListN.{length-set}
use mathlib.Core.Path.{refl}
use native.Mathlib.Omega.{arith}
use Rattle.potentials.proofs.lennard_jones.keep.Goals as goal

pub loop-t-init : goal.loop-t-init
loop-t-init c = (omega arith, refl, refl, near_begin)

pub loop-t-preserved : goal.loop-t-preserved
loop-t-preserved c = (omega (arith, c.loop-t-test.true), simp (length-set, c.loop-t.invariant.1), simp (length-set, c.loop-t.invariant.2), near_turn c.loop-t.invariant.3 (omega (arith, c.requires.0, c.loop-t-test.true, c.loop-t.invariant.3.picked.few)) (near_kept c.requires.2 c.loop-t.invariant.1 c.loop-t.invariant.2) refl c.is_skipped-far.ensures c.taken-c.ensures)
