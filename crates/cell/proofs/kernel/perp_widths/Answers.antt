use Rattle.cell.specs.Cell.{perp_widths_of}
use Rattle.cell.proofs.kernel.perp_widths.Goals as goal

pub returns : goal.returns
unfolding perp_widths_of
returns c = cc
