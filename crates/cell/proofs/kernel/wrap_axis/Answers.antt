use Rattle.cell.specs.Cell.{wrap_axis_of}
use Rattle.cell.proofs.kernel.wrap_axis.Goals as goal

pub returns-then-t : goal.returns-then-t
unfolding wrap_axis_of
returns-then-t c = simp (c.if-periodic.true, ← c.rem_euclid-t.ensures, c.if-t.true)

pub returns-then-periodic : goal.returns-then-periodic
unfolding wrap_axis_of
returns-then-periodic c = simp (c.if-periodic.true, ← c.rem_euclid-t.ensures, c.if-t.false)

pub returns : goal.returns
unfolding wrap_axis_of
returns c = cc
