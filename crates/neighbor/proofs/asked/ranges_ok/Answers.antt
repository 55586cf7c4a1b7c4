use Rattle.neighbor.proofs.Asking.{ranges_out, ranges_in}
use Rattle.std.proofs.Common.{ap, not}
use Rattle.neighbor.proofs.asked.ranges_ok.Goals as goal

pub returns-then-not-settings_ok-cell_in_range : goal.returns-then-not-settings_ok-cell_in_range
returns-then-not-settings_ok-cell_in_range c = ranges_out _ _ _ c.settings_ok.ensures c.cell_in_range.ensures (ap not c.if-not-settings_ok-cell_in_range.true)

pub returns : goal.returns
returns c = ranges_in _ _ _ c.settings_ok.ensures c.cell_in_range.ensures (ap not c.if-not-settings_ok-cell_in_range.false) c.all_within.ensures
