use Rattle.float.specs.Arith.{at}
use Rattle.strike.proofs.Rows.{row_there}
use Rattle.strike.proofs.Turns.{closed_none, closed_few, closed_long, closed_rest, closed_turn}
use Rattle.strike.specs.Closed.{survives}
use Rattle.strike.specs.Steps.{Closed}
use lib.Ieee.{nan}
use lib.ListN.{length}
use mathlib.Core.Path.{subst}
use native.Mathlib.Omega.{arith}
use Rattle.strike.proofs.closing.close_atoms.Goals as goal

pub loop-k-init : goal.loop-k-init
loop-k-init c = (omega arith, closed_none (at c.args.xs.now) c.args.width (survives c.args.marks.now) c.args.xs.now)

pub carry-to-requires : goal.carry-to-requires
carry-to-requires c = (closed_few (at c.args.xs.now) c.args.width (survives c.args.marks.now) c.args.xs.now c.loop-k.invariant.1, omega (arith, c.requires.0, closed_long (at c.args.xs.now) c.args.width (survives c.args.marks.now) c.args.xs.now c.loop-k.invariant.1), omega (arith, row_there c.args.width c.loop-k.k (length c.args.marks.now) (length c.args.xs.now) c.loop-k-test.true c.requires.1, closed_long (at c.args.xs.now) c.args.width (survives c.args.marks.now) c.args.xs.now c.loop-k.invariant.1))

pub loop-k-preserved : goal.loop-k-preserved
loop-k-preserved c = (omega arith, closed_turn (at c.args.xs.now) c.args.width (survives c.args.marks.now) c.args.xs.now (at c.loop-k.xs) c.loop-k.k c.loop-k.to c.carry-to.result c.survives-stays.result c.loop-k.xs c.carry-to.new.xs c.loop-k.invariant.1 c.survives-stays.ensures (λ s j h. closed_rest (at c.args.xs.now) c.args.width (survives c.args.marks.now) c.args.xs.now nan c.loop-k.invariant.1 _ (omega arith)) c.carry-to.ensures)

pub shape_of-xs : goal.shape_of-xs
shape_of-xs c = closed_long (at c.args.xs.now) c.args.width (survives c.args.marks.now) c.args.xs.now c.loop-k.invariant.1

pub returns : goal.returns
returns c = subst (λ n. Closed (at c.args.xs.now) c.args.width (survives c.args.marks.now) n c.args.xs.now c.loop-k.to c.loop-k.xs) (omega arith) c.loop-k.invariant.1
