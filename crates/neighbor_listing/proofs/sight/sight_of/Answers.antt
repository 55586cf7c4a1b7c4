use Rattle.neighbor_listing.specs.Steps.{sight_of}
use Rattle.neighbor_listing.proofs.sight.sight_of.Goals as goal

pub returns : goal.returns
unfolding sight_of
returns c = simp c.prepare.ensures
