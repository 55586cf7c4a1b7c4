use Rattle.verlet.specs.Parts.{three_each}
use mathlib.Core.Path.{refl}
use Rattle.verlet.proofs.moves.three_each.Goals as goal

pub returns : goal.returns
unfolding three_each
returns c = refl
