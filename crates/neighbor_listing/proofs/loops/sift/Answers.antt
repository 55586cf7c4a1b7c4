use Rattle.neighbor_listing.proofs.Sifted.{sifting_turn, sifting_end, near_is}
use mathlib.Core.Path.{refl}
use native.Mathlib.Omega.{arith}
use Rattle.neighbor_listing.proofs.loops.sift.Goals as goal

pub loop-j-preserved : goal.loop-j-preserved
loop-j-preserved c = sifting_turn c.loop-j.invariant c.loop-j-test.true (omega (arith, c.loop-j.invariant.same, c.loop-j.invariant.few, c.loop-j-test.true, c.requires.1)) (near_is _ _ _ _ _ refl c.requires.2 c.spot_at.ensures c.sees.ensures) c.one-count.ensures.value

pub returns : goal.returns
returns c = sifting_end c.loop-j.invariant c.loop-j-test.false
