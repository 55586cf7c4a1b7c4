use Rattle.neighbor_listing.specs.Sides.{is_upper}
use mathlib.Core.Path.{refl}
use Rattle.neighbor_listing.proofs.side.is_upper.Goals as goal

pub returns : goal.returns
returns c = unfold is_upper in refl
