use Rattle.cell_square.specs.Square.{steady_of}
use Rattle.cell_square.proofs.is_steady.Goals as goal

pub returns : goal.returns
returns c = unfold steady_of in rw (c.magnitude.ensures, c.magnitude-2.ensures, c.in_half-low_in.ensures, c.in_half-high_in.ensures)
