use Rattle.cell.specs.Cell.{lattice_image_of, box_image_of}
use Rattle.cell.proofs.kernel.lattice_image.Goals as goal

pub returns-then-skewed : goal.returns-then-skewed
unfolding lattice_image_of
returns-then-skewed c = simp (c.general_image.ensures, ← c.skewed.ensures, c.if-skewed.true)

pub returns : goal.returns
unfolding lattice_image_of box_image_of
returns c = simp (c.box_image.ensures, ← c.skewed.ensures, c.if-skewed.false)
