use Rattle.potentials.proofs.Charged.{charges_begin, charges_turn}
use lib.ListN.{length-set}
use mathlib.Core.Path.{refl}
use native.Mathlib.Omega.{arith}
use Rattle.potentials.proofs.coulomb.keep.Goals as goal

pub loop-t-init : goal.loop-t-init
loop-t-init c = (omega arith, refl, refl, charges_begin _ _)

pub loop-t-preserved : goal.loop-t-preserved
loop-t-preserved c = (omega (arith, c.loop-t-test.true), simp (length-set, c.loop-t.invariant.1), simp (length-set, c.loop-t.invariant.2), charges_turn c.loop-t.invariant.3 (omega (arith, c.requires.0, c.requires.3, c.loop-t-test.true, c.loop-t.invariant.1, c.loop-t.invariant.3.picked.few)) (omega (arith, c.requires.0, c.requires.4, c.loop-t-test.true, c.loop-t.invariant.2, c.loop-t.invariant.3.picked.few)) c.first_of-i.ensures c.second_of-j.ensures c.table_at-a.ensures c.table_at-b.ensures refl c.is_neutral-neutral.ensures c.is_skipped-far.ensures c.taken-c.ensures)
