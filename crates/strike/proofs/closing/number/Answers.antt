use Rattle.strike.proofs.Turns.{counted_none, counted_turn, counted_few, all_numbered}
use lib.ListN.{length-set}
use mathlib.Core.Path.{refl}
use native.Mathlib.Omega.{arith}
use Rattle.strike.proofs.closing.number.Goals as goal

pub loop-k-init : goal.loop-k-init
loop-k-init c = (omega arith, refl, counted_none c.args.marks.now c.args.fresh.now c.requires.1)

pub offset_bounds-fresh-k : goal.offset_bounds-fresh-k
offset_bounds-fresh-k c = omega (arith, c.loop-k.invariant.2.room)

pub bounds-fresh-k : goal.bounds-fresh-k
bounds-fresh-k c = omega (arith, c.loop-k.invariant.2.room)

pub overflow_add-to : goal.overflow_add-to
overflow_add-to c = omega (arith, c.requires.0, counted_few c.args.marks.now (counted_turn c.args.marks.now c.loop-k.k c.loop-k.to c.one-to.result c.loop-k.fresh c.survives.result c.loop-k-test.true c.survives.ensures c.one-to.ensures c.loop-k.invariant.2))

pub loop-k-preserved : goal.loop-k-preserved
loop-k-preserved c = (omega arith, omega (arith, c.loop-k.invariant.1, length-set c.loop-k.fresh c.loop-k.k c.loop-k.to), counted_turn c.args.marks.now c.loop-k.k c.loop-k.to c.one-to.result c.loop-k.fresh c.survives.result c.loop-k-test.true c.survives.ensures c.one-to.ensures c.loop-k.invariant.2)

pub shape_of-fresh : goal.shape_of-fresh
shape_of-fresh c = c.loop-k.invariant.1

pub returns : goal.returns
returns c = all_numbered c.args.marks.now c.loop-k.k c.loop-k.to c.loop-k.fresh (omega arith) c.loop-k.invariant.2
