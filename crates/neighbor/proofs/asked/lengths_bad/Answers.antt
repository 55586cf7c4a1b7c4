use Rattle.neighbor.specs.Update.{lengths_bad}
use Rattle.std.proofs.Common.{refl}
use Rattle.neighbor.proofs.asked.lengths_bad.Goals as goal

pub returns : goal.returns
unfolding lengths_bad
returns c = refl
