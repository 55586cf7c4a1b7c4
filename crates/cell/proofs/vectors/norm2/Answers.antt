use Rattle.cell.specs.Vec.{norm2_of}
use Rattle.cell.proofs.vectors.norm2.Goals as goal

pub returns : goal.returns
unfolding norm2_of
returns c = cc
