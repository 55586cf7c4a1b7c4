use Rattle.sheet_lines.specs.Reading.{three_at}
use Rattle.sheet_lines.proofs.three_at.Goals as goal

pub returns : goal.returns
unfolding three_at
returns c = cc
