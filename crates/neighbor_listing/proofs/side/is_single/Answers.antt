use Rattle.neighbor_listing.proofs.Shortcuts.{single_says}
use Rattle.neighbor_listing.proofs.side.is_single.Goals as goal

pub returns : goal.returns
returns c = single_says c.args.s c.args.a c.args.w c.is_bounded.ensures c.steady.ensures c.steady-2.ensures c.steady-3.ensures
