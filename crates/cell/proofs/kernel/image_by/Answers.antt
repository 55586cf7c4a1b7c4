use Rattle.cell.specs.Cell.{box_image_of}
use Rattle.cell.specs.General.{image_by}
use Rattle.cell.proofs.kernel.image_by.Goals as goal

pub returns-then-g : goal.returns-then-g
unfolding image_by
returns-then-g c = simp (c.general_by.ensures, c.if-g.true)

pub returns : goal.returns
unfolding image_by box_image_of
returns c = simp (c.box_image.ensures, c.if-g.false)
