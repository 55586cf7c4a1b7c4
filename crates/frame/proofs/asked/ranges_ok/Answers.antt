use Rattle.frame.proofs.Ranges.{ranges_frame, ranges_rest, failed, passed}
use Rattle.std.proofs.Common.{ap, not}
use Rattle.frame.proofs.asked.ranges_ok.Goals as goal

pub returns-then-not-frame_ok : goal.returns-then-not-frame_ok
returns-then-not-frame_ok c = ranges_frame _ _ (failed c.frame_ok.ensures (ap not c.if-not-frame_ok.true))

pub returns : goal.returns
returns c = ranges_rest _ _ (passed c.frame_ok.ensures (ap not c.if-not-frame_ok.false)) c.spots_ok.ensures
