use Rattle.frame.proofs.Ranges.{frame_sized, spot_inside, failed, passed, squared_frame, squared_first, squared_second, squared_fine}
use Rattle.std.proofs.Common.{ap, not}
use Rattle.frame.proofs.squared_distance.Goals as goal

pub returns-then-not-frame_ok : goal.returns-then-not-frame_ok
returns-then-not-frame_ok c = squared_frame _ _ _ (failed c.frame_ok.ensures (ap not c.if-not-frame_ok.true))

pub returns-then-not-spot_ok : goal.returns-then-not-spot_ok
returns-then-not-spot_ok c = squared_first _ _ _ (passed c.frame_ok.ensures (ap not c.if-not-frame_ok.false)) (failed c.spot_ok.ensures (ap not c.if-not-spot_ok.true))

pub returns-then-not-spot_ok-2 : goal.returns-then-not-spot_ok-2
returns-then-not-spot_ok-2 c = squared_second _ _ _ (passed c.frame_ok.ensures (ap not c.if-not-frame_ok.false)) (passed c.spot_ok.ensures (ap not c.if-not-spot_ok.false)) (failed c.spot_ok-2.ensures (ap not c.if-not-spot_ok-2.true))

pub squared-requires : goal.squared-requires
squared-requires c = record { frame_sized = frame_sized _ (passed c.frame_ok.ensures (ap not c.if-not-frame_ok.false)); inside = (spot_inside _ _ (passed c.spot_ok.ensures (ap not c.if-not-spot_ok.false)), spot_inside _ _ (passed c.spot_ok-2.ensures (ap not c.if-not-spot_ok-2.false))) }

pub returns : goal.returns
returns c = squared_fine _ _ _ (passed c.frame_ok.ensures (ap not c.if-not-frame_ok.false)) (passed c.spot_ok.ensures (ap not c.if-not-spot_ok.false)) (passed c.spot_ok-2.ensures (ap not c.if-not-spot_ok-2.false)) c.squared.ensures
