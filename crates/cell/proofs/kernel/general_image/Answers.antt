use Rattle.cell.specs.Cell.{general_image_of, round_fraction_of}
use Rattle.cell.proofs.kernel.general_image.Goals as goal

pub returns-then-singular : goal.returns-then-singular
unfolding general_image_of
returns-then-singular c = simp (← c.singular.ensures, c.if-singular.true)

pub returns : goal.returns
unfolding general_image_of round_fraction_of
returns c = simp (c.times.ensures, c.matrix.ensures, c.round_fraction.ensures, c.times-s.ensures, c.inverse.ensures, ← c.singular.ensures, c.if-singular.false)
