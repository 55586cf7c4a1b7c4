use Rattle.virial.specs.Ranged.{plain_row}
use Rattle.virial.proofs.ranged.row_plain.Goals as goal

pub returns : goal.returns
unfolding plain_row
returns c = cc
