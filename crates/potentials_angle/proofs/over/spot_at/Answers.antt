use Rattle.cell.specs.Vec.{position_at}
use mathlib.Core.Path.{refl}
use Rattle.potentials_angle.proofs.over.spot_at.Goals as goal

pub returns : goal.returns
returns c = unfold position_at in refl
