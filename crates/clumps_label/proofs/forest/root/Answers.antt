use Rattle.clumps_label.proofs.Trees.{climb_start, climb_less, climb_turn}
use lib.ListN.{get_or, set, length-set}
use mathlib.Core.Path.{ap}
use native.Mathlib.Omega.{arith}
use Rattle.clumps_label.proofs.forest.root.Goals as goal

pub offset_bounds-p-wide : goal.offset_bounds-p-wide
offset_bounds-p-wide c = omega (arith, c.wide.ensures, c.requires.left)

pub bounds-p-wide : goal.bounds-p-wide
bounds-p-wide c = omega (arith, c.wide.ensures, c.requires.left)

pub loop-up-init : goal.loop-up-init
loop-up-init c = (climb_start c.args.p.now c.args.i c.requires.falls, ap (λ k. get_or c.args.p.now k 0) c.wide.ensures)

pub offset_bounds-p-wide-in-loop-up : goal.offset_bounds-p-wide-in-loop-up
offset_bounds-p-wide-in-loop-up c = omega (arith, c.wide-in-loop-up.ensures, c.requires.left, c.loop-up.invariant.0.least, c.loop-up.invariant.0.moved.long, c.loop-up-test.true)

pub bounds-p-wide-in-loop-up : goal.bounds-p-wide-in-loop-up
bounds-p-wide-in-loop-up c = omega (arith, c.wide-in-loop-up.ensures, c.requires.left, c.loop-up.invariant.0.least, c.loop-up.invariant.0.moved.long, c.loop-up-test.true)

pub offset_bounds-p-wide-in-loop-up-2 : goal.offset_bounds-p-wide-in-loop-up-2
offset_bounds-p-wide-in-loop-up-2 c = omega (arith, c.wide-in-loop-up-2.ensures, c.requires.left, c.loop-up.invariant.0.least, c.loop-up.invariant.0.moved.long)

pub bounds-p-wide-in-loop-up-2 : goal.bounds-p-wide-in-loop-up-2
bounds-p-wide-in-loop-up-2 c = omega (arith, c.wide-in-loop-up-2.ensures, c.requires.left, c.loop-up.invariant.0.least, c.loop-up.invariant.0.moved.long)

pub offset_bounds-p-wide-in-loop-up-3 : goal.offset_bounds-p-wide-in-loop-up-3
offset_bounds-p-wide-in-loop-up-3 c = omega (arith, c.wide-in-loop-up-3.ensures, c.requires.left, c.loop-up.invariant.0.least, c.loop-up.invariant.0.moved.long, climb_less c.args.p.now c.args.i c.loop-up.at c.loop-up.p c.loop-up.up c.wide-in-loop-up.result c.wide-in-loop-up-2.result c.requires.left c.loop-up.invariant.0 c.loop-up.invariant.1 c.loop-up-test.true c.wide-in-loop-up.ensures c.wide-in-loop-up-2.ensures)

pub bounds-p-wide-in-loop-up-3 : goal.bounds-p-wide-in-loop-up-3
bounds-p-wide-in-loop-up-3 c = omega (arith, c.wide-in-loop-up-3.ensures, c.requires.left, c.loop-up.invariant.0.least, c.loop-up.invariant.0.moved.long, length-set c.loop-up.p c.wide-in-loop-up-2.result (get_or c.loop-up.p c.wide-in-loop-up.result 0), climb_less c.args.p.now c.args.i c.loop-up.at c.loop-up.p c.loop-up.up c.wide-in-loop-up.result c.wide-in-loop-up-2.result c.requires.left c.loop-up.invariant.0 c.loop-up.invariant.1 c.loop-up-test.true c.wide-in-loop-up.ensures c.wide-in-loop-up-2.ensures)

pub loop-up-smaller : goal.loop-up-smaller
loop-up-smaller c = climb_less c.args.p.now c.args.i c.loop-up.at c.loop-up.p c.loop-up.up c.wide-in-loop-up.result c.wide-in-loop-up-2.result c.requires.left c.loop-up.invariant.0 c.loop-up.invariant.1 c.loop-up-test.true c.wide-in-loop-up.ensures c.wide-in-loop-up-2.ensures

pub loop-up-preserved : goal.loop-up-preserved
loop-up-preserved c = (climb_turn c.args.p.now c.args.i c.loop-up.at c.loop-up.p c.loop-up.up c.wide-in-loop-up.result c.wide-in-loop-up-2.result c.requires.left c.loop-up.invariant.0 c.loop-up.invariant.1 c.loop-up-test.true c.wide-in-loop-up.ensures c.wide-in-loop-up-2.ensures, ap (λ k. get_or (set c.loop-up.p c.wide-in-loop-up-2.result (get_or c.loop-up.p c.wide-in-loop-up.result 0)) k 0) c.wide-in-loop-up-3.ensures)

pub shape_of-p : goal.shape_of-p
shape_of-p c = c.loop-up.invariant.0.moved.long

pub returns : goal.returns
returns c = record { climbed = c.loop-up.invariant.0; root = omega (arith, c.loop-up.invariant.1, c.loop-up.invariant.0.moved.falls.down c.loop-up.at) }
