use Rattle.bins.proofs.Runs.{run_above, run_above_end, ready_above}
use native.Mathlib.Omega.{arith}
use Rattle.frame.proofs.listing.consider_above.Goals as goal

pub consider-now-requires : goal.consider-now-requires
consider-now-requires c = record { ready = (ready_above _ _ _ c.loop-j-test.true c.loop-j.invariant, c.requires.framed); i_in_bounds = (omega arith, omega arith, c.spot_at-a.ensures) }

pub loop-j-preserved : goal.loop-j-preserved
loop-j-preserved c = run_above _ _ _ c.loop-j-test.true _ c.loop-j.invariant c.consider-now.ensures

pub returns : goal.returns
returns c = run_above_end _ _ _ c.loop-j-test.false c.loop-j.invariant
