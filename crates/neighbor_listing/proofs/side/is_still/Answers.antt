use Rattle.neighbor_listing.proofs.Shortcuts.{still_says}
use Rattle.neighbor_listing.proofs.side.is_still.Goals as goal

pub returns : goal.returns
returns c = still_says c.args.s c.args.a c.args.w c.is_bounded.ensures c.calm.ensures c.calm-2.ensures c.calm-3.ensures
