use Rattle.neighbor_listing.proofs.Flagging.{taking_turn, taking_end}
use native.Mathlib.Omega.{arith}
use Rattle.neighbor_listing.proofs.side.gather.Goals as goal

pub loop-k-preserved : goal.loop-k-preserved
loop-k-preserved c = taking_turn c.loop-k.invariant c.loop-k-test.true (omega (arith, c.loop-k.invariant.same, c.loop-k.invariant.few, c.loop-k-test.true, c.requires.1, c.requires.3)) (c.requires.4.small c.loop-k.k (omega (arith, c.loop-k.invariant.few)) c.loop-k-test.true)

pub returns : goal.returns
returns c = taking_end c.loop-k.invariant c.loop-k-test.false
