use Rattle.bins.proofs.Runs.{run_with, run_with_end, ready_with}
use mathlib.Core.Path.{◌∙◌}
use native.Mathlib.Omega.{arith}
use Rattle.neighbor_listing.proofs.loops.settle_all.Goals as goal

pub settle-now-requires : goal.settle-now-requires
settle-now-requires c = ready_with _ _ _ c.loop-j-test.true c.loop-j.invariant.2

pub loop-j-preserved : goal.loop-j-preserved
loop-j-preserved c = (omega arith, c.settle-now.auto.pairs ∙ c.loop-j.invariant.1, run_with _ _ _ c.loop-j-test.true _ c.loop-j.invariant.2 c.settle-now.ensures)

pub returns : goal.returns
returns c = run_with_end _ _ _ c.loop-j-test.false c.loop-j.invariant.2
