-- `cell_axis::nearest` meets its contract: it is the definition. Assumes nothing.
use Rattle.cell_axis.specs.Image.{nearest_of}
use Rattle.cell_axis.proofs.nearest.Goals as goal

pub returns : goal.returns
unfolding nearest_of
returns c = simp c.round.ensures
