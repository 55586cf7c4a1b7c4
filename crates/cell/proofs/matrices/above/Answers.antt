use mathlib.Core.Path.{sym}
use Rattle.cell.proofs.matrices.above.Goals as goal

pub returns-then-m-v : goal.returns-then-m-v
returns-then-m-v c = sym (rw c.if-m-v.true)

pub returns-else-m-v : goal.returns-else-m-v
returns-else-m-v c = sym (rw c.if-m-v.false)
