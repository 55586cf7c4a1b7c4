use Rattle.bins.proofs.Runs.{run_across, run_across_end, ready_across}
use mathlib.Core.Path.{◌∙◌}
use native.Mathlib.Omega.{arith}
use Rattle.neighbor_listing.proofs.loops.cross_shared.Goals as goal

pub see_shared-now-requires : goal.see_shared-now-requires
see_shared-now-requires c = (c.requires.0 _ c.loop-i-test.true, c.requires.1, c.requires.2, c.loop-i.invariant.2, c.loop-i.invariant.3, ready_across _ _ _ c.loop-i-test.true c.loop-i.invariant.4.ready, c.requires.6, c.requires.7.are c.loop-i.i-index c.loop-i-test.true, c.requires.8)

pub loop-i-preserved : goal.loop-i-preserved
loop-i-preserved c = (omega (arith, c.loop-i-test.true), c.see_shared-now.auto.pairs ∙ c.loop-i.invariant.1, c.see_shared-now.auto.flags ∙ c.loop-i.invariant.2, c.see_shared-now.auto.room ∙ c.loop-i.invariant.3, run_across _ _ _ c.loop-i-test.true _ c.loop-i.invariant.4 c.see_shared-now.ensures)

pub returns : goal.returns
returns c = run_across_end _ _ _ c.loop-i-test.false c.loop-i.invariant.4
