use Rattle.neighbor_listing.proofs.Flagging.{reached_flagged}
use Rattle.neighbor_listing.proofs.Slanted.{slanted_slope}
use mathlib.Core.Path.{◌∙◌}
use native.Mathlib.Omega.{arith}
use Rattle.neighbor_listing.proofs.side.flag_slanted.Goals as goal

pub loop-k-preserved : goal.loop-k-preserved
loop-k-preserved c = reached_flagged c.loop-k.invariant c.loop-k-test.true (omega (arith, c.loop-k.invariant.same, c.requires.3, c.requires.1, c.loop-k-test.true)) c.requires.4 c.requires.5 (c.slanted_sees.ensures ∙ slanted_slope _ _ _ _ c.requires.6) c.one.ensures
