use Rattle.sheet_lines.specs.Reading.{three_at}
use Rattle.sheet_lines_two.specs.Twos.{two_at}
use borrow.Author.Tests.{lt-ltb, le-ltb, eq-eqb, ne_eqb}
use mathlib.Core.Path.{sym}
use Rattle.sheet_lines_two.proofs.two_at.Goals as goal

pub returns-then-s-at : goal.returns-then-s-at
unfolding two_at
returns-then-s-at c = simp (le-ltb _ _ c.if-s-at.true) c.plain.ensures

pub returns-in_default : goal.returns-in_default
unfolding two_at
returns-in_default c = simp (sym c.in_default.ensures.value, lt-ltb _ _ c.if-s-at.false) c.plain-in_default.ensures

pub returns-then-kind-eq17 : goal.returns-then-kind-eq17
unfolding two_at three_at
returns-then-kind-eq17 c = simp (sym c.in-Some.ensures.value, lt-ltb _ _ c.if-s-at.false, eq-eqb _ _ c.if-kind-eq17.true) (cc)

pub returns-then-kind-eq18 : goal.returns-then-kind-eq18
unfolding two_at three_at
returns-then-kind-eq18 c = simp (sym c.in-Some.ensures.value, lt-ltb _ _ c.if-s-at.false, ne_eqb _ _ c.if-kind-eq17.false, eq-eqb _ _ c.if-kind-eq18.true) (cc)

pub returns-then-kind-eq3 : goal.returns-then-kind-eq3
unfolding two_at
returns-then-kind-eq3 c = simp (sym c.in-Some.ensures.value, lt-ltb _ _ c.if-s-at.false, ne_eqb _ _ c.if-kind-eq17.false, ne_eqb _ _ c.if-kind-eq18.false, eq-eqb _ _ c.if-kind-eq3.true) (cc)

pub returns : goal.returns
unfolding two_at
returns c = simp (sym c.in-Some.ensures.value, lt-ltb _ _ c.if-s-at.false, ne_eqb _ _ c.if-kind-eq17.false, ne_eqb _ _ c.if-kind-eq18.false, ne_eqb _ _ c.if-kind-eq3.false) c.plain-2.ensures
