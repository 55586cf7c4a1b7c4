use Rattle.shells.specs.Steps.{before_order}
use borrow.Author.Tests.{eq-eqb, ne_eqb}
use mathlib.Core.Path.{sym, ◌∙◌}
use Rattle.shells.proofs.asked.before_order.Goals as goal

pub returns-then-number-eq5 : goal.returns-then-number-eq5
unfolding before_order
returns-then-number-eq5 c = rw (eq-eqb _ 5 (sym c.number.ensures ∙ c.if-number-eq5.true))

pub returns : goal.returns
unfolding before_order
returns c = rw (ne_eqb _ 5 (λ e. c.if-number-eq5.false (c.number.ensures ∙ e)))
