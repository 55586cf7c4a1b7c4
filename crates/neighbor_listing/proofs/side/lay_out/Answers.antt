use Rattle.neighbor_listing.proofs.Flagging.{laid_turn}
use native.Mathlib.Omega.{arith}
use Rattle.neighbor_listing.proofs.side.lay_out.Goals as goal

pub loop-k-preserved : goal.loop-k-preserved
loop-k-preserved c = (omega (arith, c.loop-k-test.true), laid_turn c.loop-k.invariant.1 (omega (arith, c.loop-k-test.true, c.requires.1)) c.spot_at-b.ensures)
