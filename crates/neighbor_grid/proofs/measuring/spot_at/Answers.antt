use Rattle.cell.specs.Vec.{position_at}
use borrow.Author.Rules.{rules}
use Rattle.neighbor_grid.proofs.measuring.spot_at.Goals as goal

pub returns : goal.returns
unfolding position_at
returns c = search rules
