use Rattle.cell.specs.Cell.{width_of}
use Rattle.cell.proofs.kernel.width.Goals as goal

pub returns-then-area : goal.returns-then-area
unfolding width_of
returns-then-area c = simp (← c.cross.ensures, ← c.norm-area.ensures, c.if-area.true)

pub returns : goal.returns
unfolding width_of
returns c = simp (c.infinity.ensures, ← c.cross.ensures, ← c.norm-area.ensures, c.if-area.false)
