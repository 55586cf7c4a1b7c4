use Rattle.fire.specs.Steer.{fresh_gait}
use mathlib.Core.Path.{refl}
use Rattle.fire.proofs.steer.fresh.Goals as goal

pub returns : goal.returns
unfolding fresh_gait
returns c = refl
