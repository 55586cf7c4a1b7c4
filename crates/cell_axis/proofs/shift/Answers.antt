use mathlib.Core.Path.{sym, ◌∙◌}
use Rattle.cell_axis.specs.Image.{shift_of}
use Rattle.cell_axis.proofs.Twice.{twice}
use Rattle.cell_axis.proofs.shift.Goals as goal

pub returns-then-abs-len : goal.returns-then-abs-len
unfolding shift_of
returns-then-abs-len c = sym (rw (← twice, ← c.abs.ensures, c.if-abs-len.true))

pub returns-else-abs-len : goal.returns-else-abs-len
unfolding shift_of
returns-else-abs-len c = c.toward.ensures ∙ sym (rw (← twice, ← c.abs.ensures, c.if-abs-len.false))
