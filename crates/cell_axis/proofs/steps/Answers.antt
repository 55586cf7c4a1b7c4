-- `cell_axis::steps` meets its contract: each branch is what the definition's `cond` picks. Assumes nothing.
use mathlib.Core.Path.{sym}
use Rattle.cell_axis.specs.Image.{steps_of}
use Rattle.cell_axis.proofs.steps.Goals as goal

pub returns-then-q-t : goal.returns-then-q-t
unfolding steps_of
returns-then-q-t c = sym (rw c.if-q-t.true)

pub returns-else-q-t : goal.returns-else-q-t
unfolding steps_of
returns-else-q-t c = sym (rw c.if-q-t.false)
