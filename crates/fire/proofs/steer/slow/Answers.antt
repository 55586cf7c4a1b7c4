use Rattle.fire.specs.Steer.{slowed}
use mathlib.Core.Path.{refl}
use Rattle.fire.proofs.steer.slow.Goals as goal

pub returns : goal.returns
unfolding slowed
returns c = refl
