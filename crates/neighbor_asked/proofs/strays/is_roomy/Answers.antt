use Rattle.neighbor_asked.proofs.Nearby.{roomy_says}
use Rattle.float.proofs.Branches.{yes}
use mathlib.Core.Path.{refl}
use Rattle.neighbor_asked.proofs.strays.is_roomy.Goals as goal

pub returns : goal.returns
returns c = roomy_says _ _ _ (yes c.well_formed.0.1) refl
