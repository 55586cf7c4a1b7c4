use Rattle.verlet.specs.Verlet.{kick_of}
use mathlib.Core.Path.{refl}
use Rattle.verlet.proofs.moves.kick_one.Goals as goal

pub returns : goal.returns
unfolding kick_of
returns c = refl
