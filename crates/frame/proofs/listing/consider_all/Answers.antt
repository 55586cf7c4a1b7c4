use Rattle.bins.proofs.Runs.{run_numbers, run_numbers_end, ready_numbers}
use native.Mathlib.Omega.{arith}
use Rattle.frame.proofs.listing.consider_all.Goals as goal

pub consider_above-now-requires : goal.consider_above-now-requires
consider_above-now-requires c = record { framed = c.requires.framed; i_lt_n = (omega arith, c.requires.n_in_bounds.0, ready_numbers _ _ c.loop-i-test.true c.loop-i.invariant) }

pub loop-i-preserved : goal.loop-i-preserved
loop-i-preserved c = run_numbers _ _ c.loop-i-test.true _ c.loop-i.invariant c.consider_above-now.ensures

pub returns : goal.returns
returns c = run_numbers_end _ _ c.loop-i-test.false c.loop-i.invariant
