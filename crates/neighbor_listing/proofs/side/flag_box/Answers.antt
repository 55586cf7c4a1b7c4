use Rattle.neighbor_listing.proofs.Flagging.{box_flagged}
use native.Mathlib.Omega.{arith}
use Rattle.neighbor_listing.proofs.side.flag_box.Goals as goal

pub loop-k-preserved : goal.loop-k-preserved
loop-k-preserved c = box_flagged c.loop-k.invariant c.loop-k-test.true (omega (arith, c.loop-k.invariant.same, c.requires.3, c.requires.1, c.loop-k-test.true)) c.box_sees.ensures c.box_holds-ok.ensures c.one.ensures
