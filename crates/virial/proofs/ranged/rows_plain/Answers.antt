use Rattle.virial.specs.Ranged.{plain_rows}
use Rattle.virial.proofs.ranged.rows_plain.Goals as goal

pub returns : goal.returns
unfolding plain_rows
returns c = cc
