use Rattle.cell.specs.Cell.{to_fractional_of}
use Rattle.cell.proofs.kernel.to_fractional.Goals as goal

pub returns-then-singular : goal.returns-then-singular
unfolding to_fractional_of
returns-then-singular c = simp (← c.singular.ensures, c.if-singular.true)

pub returns : goal.returns
unfolding to_fractional_of
returns c = simp (c.times.ensures, c.inverse.ensures, ← c.singular.ensures, c.if-singular.false)
