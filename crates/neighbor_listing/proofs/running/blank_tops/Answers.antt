use Rattle.neighbor_listing.proofs.Partners.{blank_cleared}
use Rattle.neighbor_listing.proofs.running.blank_tops.Goals as goal

pub returns : goal.returns
returns c = blank_cleared
