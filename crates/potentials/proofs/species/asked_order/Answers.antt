use Rattle.potentials.specs.Calls.{order_asked}
use borrow.Author.Tests.{not-true, not-false}
use mathlib.Core.Path.{sym, ◌∙◌}
use Rattle.std.proofs.Common.{ap, not}
use Rattle.potentials.proofs.species.asked_order.Goals as goal

pub returns-then-not-is_rising : goal.returns-then-not-is_rising
returns-then-not-is_rising c = unfold order_asked in rw (sym c.is_rising.ensures ∙ not-true _ (ap not c.if-not-is_rising.true))

pub returns-then-not-is_rising-2 : goal.returns-then-not-is_rising-2
returns-then-not-is_rising-2 c = unfold order_asked in rw (sym c.is_rising.ensures ∙ not-false _ (ap not c.if-not-is_rising.false), sym c.is_rising-2.ensures ∙ not-true _ (ap not c.if-not-is_rising-2.true))

pub returns : goal.returns
returns c = unfold order_asked in rw (sym c.is_rising.ensures ∙ not-false _ (ap not c.if-not-is_rising.false), sym c.is_rising-2.ensures ∙ not-false _ (ap not c.if-not-is_rising-2.false))
