use Rattle.cell_prepared.specs.Facts.{image_in}
use Rattle.cell_prepared.proofs.image_in.Goals as goal

pub returns : goal.returns
unfolding image_in
returns c = simp (c.diff_in.ensures, c.boxes_by-counts.ensures)
