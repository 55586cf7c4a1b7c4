use Rattle.cell.specs.Cell.{wrap_of}
use Rattle.cell.proofs.kernel.wrap.Goals as goal

pub returns-then-singular : goal.returns-then-singular
unfolding wrap_of
returns-then-singular c = simp (← c.singular.ensures, c.if-singular.true)

pub returns : goal.returns
unfolding wrap_of
returns c = simp (c.to_cartesian.ensures, c.wrap_fraction.ensures, c.to_fractional.ensures, ← c.singular.ensures, c.if-singular.false)
