use Rattle.neighbor_listing.proofs.Shortcuts.{shared_says}
use Rattle.neighbor_listing.proofs.side.shared_of.Goals as goal

pub returns : goal.returns
returns c = shared_says c.args.s c.args.v c.args.w c.is_bounded.ensures c.shared_steady.ensures c.shared_steady-2.ensures c.shared_steady-3.ensures c.step_by.ensures c.step_by-2.ensures c.step_by-3.ensures c.is_calm.ensures c.is_calm-2.ensures c.is_calm-3.ensures
