use Rattle.field.specs.Rows.{number_in}
use borrow.Author.Tests.{lt-ltb, le-ltb}
use Rattle.field.proofs.desks.number_at.Goals as goal

pub returns-then-k-row : goal.returns-then-k-row
returns-then-k-row c = unfold number_in in rw (lt-ltb _ _ c.if-k-row.true)

pub returns : goal.returns
returns c = unfold number_in in rw (le-ltb _ _ c.if-k-row.false)
