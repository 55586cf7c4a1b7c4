use Rattle.cell_square.specs.Square.{gap_of}
use Rattle.cell_square.proofs.gap.Goals as goal

pub returns : goal.returns
returns c = unfold gap_of in c.nearer.ensures
