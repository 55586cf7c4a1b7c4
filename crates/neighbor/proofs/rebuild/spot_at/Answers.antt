use Rattle.cell.specs.Vec.{position_at}
use Rattle.std.proofs.Common.{rules}
use Rattle.neighbor.proofs.rebuild.spot_at.Goals as goal

pub returns : goal.returns
unfolding position_at
returns c = search rules
