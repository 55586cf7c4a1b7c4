use Rattle.cell.specs.Ranged.{vec_within}
use Rattle.cell.proofs.ranged.vec_within.Goals as goal

pub returns : goal.returns
unfolding vec_within
returns c = cc
