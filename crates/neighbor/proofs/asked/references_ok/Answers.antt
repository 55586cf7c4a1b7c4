use Rattle.neighbor.proofs.Asking.{references_same}
use Rattle.neighbor.specs.Rebuild.{references_ok}
use borrow.Author.Tests.{not-true}
use Rattle.std.proofs.Common.{ap, not}
use Rattle.neighbor.proofs.asked.references_ok.Goals as goal

pub returns-then-not-is_same : goal.returns-then-not-is_same
unfolding references_ok
returns-then-not-is_same c = simp (← c.is_same.ensures, not-true c.is_same.result (ap not c.if-not-is_same.true))

pub returns : goal.returns
returns c = references_same _ _ _ c.is_same.ensures (ap not c.if-not-is_same.false) c.first_within.ensures
