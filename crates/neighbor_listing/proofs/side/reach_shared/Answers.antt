use Rattle.neighbor_listing.proofs.Shortcuts.{shared_reach}
use mathlib.Core.Path.{refl}
use Rattle.neighbor_listing.proofs.side.reach_shared.Goals as goal

pub returns : goal.returns
returns c = (shared_reach c.args.s c.args.a c.args.w c.requires.0 c.requires.1 c.is_beyond.ensures, refl)
