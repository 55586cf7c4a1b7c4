use Rattle.cell.specs.General.{general_by}
use Rattle.cell.proofs.kernel.general_by.Goals as goal

pub returns-then-g : goal.returns-then-g
unfolding general_by
returns-then-g c = simp c.if-g.true

pub returns : goal.returns
unfolding general_by
returns c = simp (c.times.ensures, c.matrix.ensures, c.round_fraction.ensures, c.dot-x.ensures, c.dot-y.ensures, c.dot-z.ensures, c.if-g.false)
