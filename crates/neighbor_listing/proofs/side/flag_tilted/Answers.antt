use Rattle.neighbor_listing.proofs.Flagging.{tilted_flagged}
use mathlib.Core.Path.{refl}
use native.Mathlib.Omega.{arith}
use Rattle.neighbor_listing.proofs.side.flag_tilted.Goals as goal

pub loop-k-preserved : goal.loop-k-preserved
loop-k-preserved c = tilted_flagged c.loop-k.invariant c.loop-k-test.true (omega (arith, c.loop-k.invariant.same, c.requires.3, c.requires.1, c.loop-k-test.true)) refl c.tilted_sees.ensures c.tilted_holds-ok.ensures c.one.ensures
