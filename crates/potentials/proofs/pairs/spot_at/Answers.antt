use mathlib.Core.Path.{refl}
use Rattle.cell.specs.Vec.{position_at}
use Rattle.potentials.proofs.pairs.spot_at.Goals as goal

pub returns : goal.returns
returns c = unfold position_at in refl
