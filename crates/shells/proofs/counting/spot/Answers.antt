use Rattle.frame.specs.Distance.{spot_of}
use mathlib.Core.Path.{refl}
use Rattle.shells.proofs.counting.spot.Goals as goal

pub returns : goal.returns
unfolding spot_of
returns c = refl
