use Rattle.cell.specs.Cell.{image_of}
use Rattle.cell.proofs.kernel.min_image.Goals as goal

pub returns-in-None : goal.returns-in-None
unfolding image_of
returns-in-None c = simp (c.none.ensures, c.in-None.is)

pub returns-in-Some : goal.returns-in-Some
unfolding image_of
returns-in-Some c = simp (c.lattice_image.ensures, c.lattice_boxes.ensures, c.in-Some.is)
