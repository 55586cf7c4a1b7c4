use Rattle.frame.proofs.Ranges.{passing_turn, passing_fails, passing_end, failed, passed}
use Rattle.std.proofs.Common.{ap, not}
use Rattle.frame.proofs.asked.spots_ok.Goals as goal

pub returns-then-not-spot_ok : goal.returns-then-not-spot_ok
returns-then-not-spot_ok c = passing_fails _ _ c.loop-i.invariant c.loop-i-test.true (failed (rw c.spot_at.ensures at c.spot_ok.ensures) (ap not c.if-not-spot_ok.true))

pub loop-i-preserved : goal.loop-i-preserved
loop-i-preserved c = passing_turn _ _ c.loop-i.invariant c.loop-i-test.true (passed (rw c.spot_at.ensures at c.spot_ok.ensures) (ap not c.if-not-spot_ok.false))

pub returns : goal.returns
returns c = passing_end _ _ c.loop-i.invariant c.loop-i-test.false
