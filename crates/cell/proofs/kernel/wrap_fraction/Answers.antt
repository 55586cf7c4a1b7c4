use Rattle.cell.specs.Cell.{wrap_fraction_of}
use Rattle.cell.proofs.kernel.wrap_fraction.Goals as goal

pub returns : goal.returns
unfolding wrap_fraction_of
returns c = cc
