use Rattle.neighbor.specs.State.{radius_seen}
use borrow.Author.Tests.{not-true, not-false}
use Rattle.std.proofs.Common.{ap, not}
use Rattle.neighbor.proofs.search_radius.Goals as goal

pub returns-then-not-settings_ok : goal.returns-then-not-settings_ok
unfolding radius_seen
returns-then-not-settings_ok c = simp (← c.settings_ok.ensures, not-true c.settings_ok.result (ap not c.if-not-settings_ok.true))

pub returns : goal.returns
unfolding radius_seen
returns c = simp (← c.settings_ok.ensures, not-false c.settings_ok.result (ap not c.if-not-settings_ok.false), c.radius.ensures)
