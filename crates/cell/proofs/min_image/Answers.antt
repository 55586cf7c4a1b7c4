use Rattle.cell.proofs.min_image.Goals as goal

pub returns-then-vec_within-cell_in_range : goal.returns-then-vec_within-cell_in_range
returns-then-vec_within-cell_in_range c = simp (c.min_image.ensures, ← c.vec_within.ensures, ← c.cell_in_range.ensures, c.if-vec_within-cell_in_range.true)

pub returns : goal.returns
returns c = simp (← c.vec_within.ensures, ← c.cell_in_range.ensures, c.if-vec_within-cell_in_range.false)
