use Rattle.cell_prepared.specs.Facts.{image_in}
use Rattle.cell_prepared.proofs.quick_image.Goals as goal

pub returns : goal.returns
unfolding image_in
returns c = simp (c.quick_diff.ensures, c.boxes_by-counts.ensures)
