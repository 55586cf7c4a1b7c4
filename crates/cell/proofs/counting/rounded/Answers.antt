use Rattle.cell.specs.Boxes.{rounded_of}
use Rattle.cell.proofs.counting.rounded.Goals as goal

pub returns-then-periodic : goal.returns-then-periodic
unfolding rounded_of
returns-then-periodic c = cc

pub returns-else-periodic : goal.returns-else-periodic
unfolding rounded_of
returns-else-periodic c = cc
