use Rattle.bins.proofs.Runs.{run_inside_end}
use Rattle.neighbor_listing.proofs.Flagging.{inside_ready, inside_run}
use mathlib.Core.List.{[]}
use mathlib.Core.Path.{◌∙◌}
use native.Mathlib.Omega.{arith}
use Rattle.neighbor_listing.proofs.loops.home_side.Goals as goal

pub consider_side-now-requires : goal.consider_side-now-requires
consider_side-now-requires c = (c.requires.0 _ c.loop-k-test.true, c.requires.0, omega (arith, c.loop-k-test.true), c.requires.1, c.requires.2, c.loop-k.invariant.2, c.loop-k.invariant.3, inside_ready _ _ c.loop-k-test.true c.loop-k.invariant.4.ready, c.requires.6, c.requires.7.are c.loop-k.k c.loop-k-test.true)

pub loop-k-preserved : goal.loop-k-preserved
loop-k-preserved c = (omega (arith, c.loop-k-test.true), c.consider_side-now.auto.pairs ∙ c.loop-k.invariant.1, c.consider_side-now.auto.flags ∙ c.loop-k.invariant.2, c.consider_side-now.auto.room ∙ c.loop-k.invariant.3, inside_run _ _ c.loop-k-test.true _ c.loop-k.invariant.4 c.consider_side-now.ensures)

pub returns : goal.returns
returns c = run_inside_end _ [] _ c.loop-k-test.false c.loop-k.invariant.4
