use Rattle.cell.specs.Vec.{position_at}
use borrow.Author.Rules.{rules}
use Rattle.neighbor_listing.proofs.sight.spot_at.Goals as goal

pub returns : goal.returns
unfolding position_at
returns c = search rules
