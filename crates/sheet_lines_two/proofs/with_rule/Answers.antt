use Rattle.sheet_lines_two.specs.Twos.{ruled_two}
use borrow.Author.Tests.{eq-eqb, ne_eqb}
use Rattle.sheet_lines_two.proofs.with_rule.Goals as goal

pub returns-in_default : goal.returns-in_default
unfolding ruled_two
returns-in_default c = simp c.in_default.is c.plain.ensures

pub returns-then-rule-eq1 : goal.returns-then-rule-eq1
unfolding ruled_two
returns-then-rule-eq1 c = simp (c.in-Some.is, eq-eqb _ _ c.if-rule-eq1.true)

pub returns-then-rule-eq2 : goal.returns-then-rule-eq2
unfolding ruled_two
returns-then-rule-eq2 c = simp (c.in-Some.is, ne_eqb _ _ c.if-rule-eq1.false, eq-eqb _ _ c.if-rule-eq2.true)

pub returns : goal.returns
unfolding ruled_two
returns c = simp (c.in-Some.is, ne_eqb _ _ c.if-rule-eq1.false, ne_eqb _ _ c.if-rule-eq2.false) c.plain-2.ensures
