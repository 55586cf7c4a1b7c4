use Rattle.neighbor.proofs.Asking.{outdated_box, outdated_moved}
use Rattle.std.proofs.Common.{ap, not}
use Rattle.neighbor.proofs.rebuild.outdated.Goals as goal

pub returns-then-not-is_same : goal.returns-then-not-is_same
returns-then-not-is_same c = outdated_box _ _ _ _ c.is_same.ensures (ap not c.if-not-is_same.true)

pub returns : goal.returns
returns c = outdated_moved _ _ _ _ c.is_same.ensures (ap not c.if-not-is_same.false) c.needs.ensures
