use Rattle.strike.proofs.Turns.{closed_none, closed_few, closed_long, closed_rest, closed_turn}
use Rattle.strike.specs.Closed.{survives}
use Rattle.strike.specs.Steps.{Closed}
use lib.ListN.{get_or}
use mathlib.Core.Path.{subst}
use native.Mathlib.Omega.{arith}
use Rattle.strike.proofs.closing.close_whole.Goals as goal

pub loop-k-init : goal.loop-k-init
loop-k-init c = (omega arith, closed_none (λ e. get_or c.args.xs.now e 0) 1 (survives c.args.marks.now) c.args.xs.now)

pub carry_one-to-requires : goal.carry_one-to-requires
carry_one-to-requires c = (closed_few (λ e. get_or c.args.xs.now e 0) 1 (survives c.args.marks.now) c.args.xs.now c.loop-k.invariant.1, omega (arith, c.requires, closed_long (λ e. get_or c.args.xs.now e 0) 1 (survives c.args.marks.now) c.args.xs.now c.loop-k.invariant.1))

pub loop-k-preserved : goal.loop-k-preserved
loop-k-preserved c = (omega arith, closed_turn (λ e. get_or c.args.xs.now e 0) 1 (survives c.args.marks.now) c.args.xs.now (λ e. get_or c.loop-k.xs e 0) c.loop-k.k c.loop-k.to c.carry_one-to.result c.survives-stays.result c.loop-k.xs c.carry_one-to.new.xs c.loop-k.invariant.1 c.survives-stays.ensures (λ s j h. closed_rest (λ e. get_or c.args.xs.now e 0) 1 (survives c.args.marks.now) c.args.xs.now 0 c.loop-k.invariant.1 _ (omega arith)) c.carry_one-to.ensures)

pub shape_of-xs : goal.shape_of-xs
shape_of-xs c = closed_long (λ e. get_or c.args.xs.now e 0) 1 (survives c.args.marks.now) c.args.xs.now c.loop-k.invariant.1

pub returns : goal.returns
returns c = subst (λ n. Closed (λ e. get_or c.args.xs.now e 0) 1 (survives c.args.marks.now) n c.args.xs.now c.loop-k.to c.loop-k.xs) (omega arith) c.loop-k.invariant.1
