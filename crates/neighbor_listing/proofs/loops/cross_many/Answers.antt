use Rattle.bins.proofs.Runs.{run_across, run_across_end, ready_across}
use mathlib.Core.Path.{◌∙◌}
use native.Mathlib.Omega.{arith}
use Rattle.neighbor_listing.proofs.loops.cross_many.Goals as goal

pub consider_part-now-requires : goal.consider_part-now-requires
consider_part-now-requires c = (c.requires.0 _ c.loop-i-test.true, c.requires.1, ready_across _ _ _ c.loop-i-test.true c.loop-i.invariant.2.ready)

pub loop-i-preserved : goal.loop-i-preserved
loop-i-preserved c = (omega arith, c.consider_part-now.auto.pairs ∙ c.loop-i.invariant.1, run_across _ _ _ c.loop-i-test.true _ c.loop-i.invariant.2 c.consider_part-now.ensures)

pub returns : goal.returns
returns c = run_across_end _ _ _ c.loop-i-test.false c.loop-i.invariant.2
