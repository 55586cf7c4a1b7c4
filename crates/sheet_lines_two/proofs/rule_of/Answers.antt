use borrow.Author.Tests.{eq-eqb, ne_eqb}
use Rattle.sheet_lines_two.proofs.rule_of.Goals as goal

pub returns-then-extra-eq0 : goal.returns-then-extra-eq0
returns-then-extra-eq0 c = simp (eq-eqb _ _ c.if-extra-eq0.true)

pub returns : goal.returns
returns c = simp (ne_eqb _ _ c.if-extra-eq0.false)
