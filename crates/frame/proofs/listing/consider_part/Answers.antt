use Rattle.bins.proofs.Runs.{run_with, run_with_end, ready_with}
use Rattle.frame.proofs.listing.consider_part.Goals as goal

pub consider-now-requires : goal.consider-now-requires
consider-now-requires c = record { ready = (ready_with _ _ _ c.loop-j-test.true c.loop-j.invariant, c.requires.framed); i_in_bounds = (c.requires.i_in_bounds.0, c.requires.i_in_bounds.1 _ c.loop-j-test.true, c.spot_at-a.ensures) }

pub loop-j-preserved : goal.loop-j-preserved
loop-j-preserved c = run_with _ _ _ c.loop-j-test.true _ c.loop-j.invariant c.consider-now.ensures

pub returns : goal.returns
returns c = run_with_end _ _ _ c.loop-j-test.false c.loop-j.invariant
