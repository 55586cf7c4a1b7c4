use Rattle.cell.specs.Cell.{round_axis_of}
use Rattle.cell.proofs.kernel.round_axis.Goals as goal

pub returns-then-periodic : goal.returns-then-periodic
unfolding round_axis_of
returns-then-periodic c = cc

pub returns : goal.returns
unfolding round_axis_of
returns c = cc
