use Rattle.neighbor.proofs.Asking.{needs_other, needs_none, needs_moved}
use Rattle.std.proofs.Common.{ap, not}
use Rattle.neighbor.proofs.rebuild.needs.Goals as goal

pub returns-then-not-is_same : goal.returns-then-not-is_same
returns-then-not-is_same c = needs_other _ _ _ _ c.is_same.ensures (ap not c.if-not-is_same.true)

pub returns-then-skin : goal.returns-then-skin
returns-then-skin c = needs_none _ _ _ _ c.is_same.ensures (ap not c.if-not-is_same.false) c.skin-skin.ensures c.if-skin.true

pub returns : goal.returns
returns c = needs_moved _ _ _ _ c.is_same.ensures (ap not c.if-not-is_same.false) c.skin-skin.ensures c.if-skin.false c.prepare.ensures c.some_far.ensures
