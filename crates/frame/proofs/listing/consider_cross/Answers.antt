use Rattle.bins.proofs.Runs.{run_across, run_across_end, ready_across}
use Rattle.frame.proofs.listing.consider_cross.Goals as goal

pub consider_part-now-requires : goal.consider_part-now-requires
consider_part-now-requires c = record { framed = c.requires.framed; i_in_bounds = (c.requires.below.0 _ c.loop-i-test.true, c.requires.below.1, ready_across _ _ _ c.loop-i-test.true c.loop-i.invariant.ready) }

pub loop-i-preserved : goal.loop-i-preserved
loop-i-preserved c = run_across _ _ _ c.loop-i-test.true _ c.loop-i.invariant c.consider_part-now.ensures

pub returns : goal.returns
returns c = run_across_end _ _ _ c.loop-i-test.false c.loop-i.invariant
