use Rattle.fire.proofs.Turns.{going_first, going_stop, going_out, going_turn, going_less}
use borrow.Author.Tests.{not-true, not-false}
use mathlib.Core.Path.{refl, sym, ◌∙◌}
use native.Mathlib.Omega.{arith}
use Rattle.std.proofs.Common.{ap, not}
use Rattle.fire.proofs.kernel.relax.Goals as goal

pub loop-t-init : goal.loop-t-init
loop-t-init c = (refl, refl, refl, refl, refl, refl, refl, going_first _ _ _ _ _ _ c.requires.0 c.requires.1)

pub shape_of-positions-then-not-goes_on : goal.shape_of-positions-then-not-goes_on
shape_of-positions-then-not-goes_on c = c.loop-t.invariant.0

pub shape_of-velocities-then-not-goes_on : goal.shape_of-velocities-then-not-goes_on
shape_of-velocities-then-not-goes_on c = c.loop-t.invariant.1

pub shape_of-pairs-then-not-goes_on : goal.shape_of-pairs-then-not-goes_on
shape_of-pairs-then-not-goes_on c = c.loop-t.invariant.2

pub shape_of-references-then-not-goes_on : goal.shape_of-references-then-not-goes_on
shape_of-references-then-not-goes_on c = c.loop-t.invariant.3

pub shape_of-starts-then-not-goes_on : goal.shape_of-starts-then-not-goes_on
shape_of-starts-then-not-goes_on c = c.loop-t.invariant.4

pub shape_of-items-then-not-goes_on : goal.shape_of-items-then-not-goes_on
shape_of-items-then-not-goes_on c = c.loop-t.invariant.5

pub shape_of-forces-then-not-goes_on : goal.shape_of-forces-then-not-goes_on
shape_of-forces-then-not-goes_on c = c.loop-t.invariant.6

pub returns-then-not-goes_on : goal.returns-then-not-goes_on
returns-then-not-goes_on c = going_stop c.loop-t.invariant.7 (sym c.goes_on.ensures ∙ not-true _ (ap not c.if-not-goes_on.true))

pub turn-next-requires : goal.turn-next-requires
turn-next-requires c = (omega (arith, c.loop-t.invariant.7.since, c.loop-t-test.true, c.well_formed), omega (arith, c.loop-t-test.true, c.well_formed))

pub loop-t-smaller : goal.loop-t-smaller
loop-t-smaller c = going_less c.loop-t.invariant.7 c.loop-t-test.true c.turn-next.ensures

pub loop-t-preserved : goal.loop-t-preserved
loop-t-preserved c = (c.turn-next.auto.positions ∙ c.loop-t.invariant.0, c.turn-next.auto.velocities ∙ c.loop-t.invariant.1, c.turn-next.auto.pairs ∙ c.loop-t.invariant.2, c.turn-next.auto.references ∙ c.loop-t.invariant.3, c.turn-next.auto.starts ∙ c.loop-t.invariant.4, c.turn-next.auto.items ∙ c.loop-t.invariant.5, c.turn-next.auto.forces ∙ c.loop-t.invariant.6, going_turn c.loop-t.invariant.7 c.loop-t-test.true (sym c.goes_on.ensures ∙ not-false _ (ap not c.if-not-goes_on.false)) c.turn-next.ensures)

pub shape_of-positions : goal.shape_of-positions
shape_of-positions c = c.loop-t.invariant.0

pub shape_of-velocities : goal.shape_of-velocities
shape_of-velocities c = c.loop-t.invariant.1

pub shape_of-pairs : goal.shape_of-pairs
shape_of-pairs c = c.loop-t.invariant.2

pub shape_of-references : goal.shape_of-references
shape_of-references c = c.loop-t.invariant.3

pub shape_of-starts : goal.shape_of-starts
shape_of-starts c = c.loop-t.invariant.4

pub shape_of-items : goal.shape_of-items
shape_of-items c = c.loop-t.invariant.5

pub shape_of-forces : goal.shape_of-forces
shape_of-forces c = c.loop-t.invariant.6

pub returns : goal.returns
returns c = going_out c.loop-t.invariant.7 c.loop-t-test.false
