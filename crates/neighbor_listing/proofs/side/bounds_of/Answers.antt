use Rattle.neighbor_listing.proofs.Flagging.{bounds_are}
use Rattle.neighbor_listing.proofs.side.bounds_of.Goals as goal

pub returns : goal.returns
returns c = bounds_are c.all_enclosed-sound.ensures
