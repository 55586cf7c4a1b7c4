use Rattle.fire.specs.Steer.{blend_of}
use mathlib.Core.Path.{refl}
use Rattle.fire.proofs.steer.mix_one.Goals as goal

pub returns : goal.returns
unfolding blend_of
returns c = refl
