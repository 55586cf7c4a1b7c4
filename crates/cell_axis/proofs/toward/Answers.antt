-- `cell_axis::toward` meets its contract: each branch is what the definition's `cond` picks. Assumes nothing.
use mathlib.Core.Path.{sym}
use Rattle.cell_axis.proofs.toward.Goals as goal

pub returns-then-x : goal.returns-then-x
returns-then-x c = sym (rw c.if-x.true)

pub returns-else-x : goal.returns-else-x
returns-else-x c = sym (rw c.if-x.false)
