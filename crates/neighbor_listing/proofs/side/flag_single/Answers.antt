use Rattle.neighbor_listing.proofs.Shortcuts.{still_reaches}
use Rattle.neighbor_listing.proofs.side.flag_single.Goals as goal

pub flag_still-requires : goal.flag_still-requires
flag_still-requires c = (c.requires.0, c.requires.1, c.requires.2, c.requires.3, still_reaches c.requires.4 c.if-r.true, c.requires.5)
