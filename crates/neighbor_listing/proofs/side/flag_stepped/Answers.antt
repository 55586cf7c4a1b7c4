use Rattle.neighbor_listing.proofs.Flagging.{reached_flagged}
use native.Mathlib.Omega.{arith}
use Rattle.neighbor_listing.proofs.side.flag_stepped.Goals as goal

pub loop-k-preserved : goal.loop-k-preserved
loop-k-preserved c = reached_flagged c.loop-k.invariant c.loop-k-test.true (omega (arith, c.loop-k.invariant.same, c.requires.3, c.requires.1, c.loop-k-test.true)) c.requires.4 c.requires.5 c.stepped_sees.ensures c.one.ensures
