use Rattle.cell.specs.Vec.{norm_of}
use Rattle.cell.proofs.vectors.norm.Goals as goal

pub returns : goal.returns
unfolding norm_of
returns c = cc
