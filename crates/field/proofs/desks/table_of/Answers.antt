use Rattle.field.specs.Rows.{table_by}
use borrow.Author.Tests.{eq-eqb, ne_eqb}
use Rattle.field.proofs.desks.table_of.Goals as goal

pub returns-then-row-eq0 : goal.returns-then-row-eq0
returns-then-row-eq0 c = unfold table_by in rw (eq-eqb _ _ c.if-row-eq0.true)

pub returns-then-own-eq0 : goal.returns-then-own-eq0
returns-then-own-eq0 c = unfold table_by in rw (ne_eqb _ _ c.if-row-eq0.false, eq-eqb _ _ c.if-own-eq0.true)

pub returns : goal.returns
returns c = unfold table_by in rw (ne_eqb _ _ c.if-row-eq0.false, ne_eqb _ _ c.if-own-eq0.false)
