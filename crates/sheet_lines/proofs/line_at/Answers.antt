use Rattle.sheet_lines.specs.Reading.{line_at}
use borrow.Author.Tests.{lt-ltb, le-ltb, eq-eqb, ne_eqb}
use mathlib.Core.Path.{sym}
use Rattle.sheet_lines.proofs.line_at.Goals as goal

pub returns-then-s-at : goal.returns-then-s-at
unfolding line_at
returns-then-s-at c = simp (le-ltb _ _ c.if-s-at.true)

pub returns-in_default : goal.returns-in_default
unfolding line_at
returns-in_default c = simp (sym c.in_default.ensures.value, lt-ltb _ _ c.if-s-at.false)

pub returns-then-kind-eq1 : goal.returns-then-kind-eq1
unfolding line_at
returns-then-kind-eq1 c = simp (sym c.in-Some.ensures.value, lt-ltb _ _ c.if-s-at.false, eq-eqb _ _ c.if-kind-eq1.true) (cc)

pub returns-then-kind-eq2 : goal.returns-then-kind-eq2
unfolding line_at
returns-then-kind-eq2 c = simp (sym c.in-Some.ensures.value, lt-ltb _ _ c.if-s-at.false, ne_eqb _ _ c.if-kind-eq1.false, eq-eqb _ _ c.if-kind-eq2.true) (cc)

pub returns-then-kind-eq3 : goal.returns-then-kind-eq3
unfolding line_at
returns-then-kind-eq3 c = simp (sym c.in-Some.ensures.value, lt-ltb _ _ c.if-s-at.false, ne_eqb _ _ c.if-kind-eq1.false, ne_eqb _ _ c.if-kind-eq2.false, eq-eqb _ _ c.if-kind-eq3.true) (cc)

pub returns : goal.returns
unfolding line_at
returns c = simp (sym c.in-Some.ensures.value, lt-ltb _ _ c.if-s-at.false, ne_eqb _ _ c.if-kind-eq1.false, ne_eqb _ _ c.if-kind-eq2.false, ne_eqb _ _ c.if-kind-eq3.false)
