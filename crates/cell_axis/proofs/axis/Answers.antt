-- `cell_axis::axis` meets its contract. Assumes nothing.
use Rattle.cell_axis.specs.Image.{axis_of}
use Rattle.cell_axis.proofs.axis.Goals as goal

pub returns-then-periodic : goal.returns-then-periodic
unfolding axis_of
returns-then-periodic c = cc

pub returns-else-periodic : goal.returns-else-periodic
unfolding axis_of
returns-else-periodic c = cc
