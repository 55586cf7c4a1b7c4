-- `cell_axis::fraction` meets its contract: it is the definition. Assumes nothing.
use Rattle.cell_axis.specs.Image.{fraction_of}
use Rattle.cell_axis.proofs.fraction.Goals as goal

pub returns : goal.returns
unfolding fraction_of
returns c = simp c.round.ensures
