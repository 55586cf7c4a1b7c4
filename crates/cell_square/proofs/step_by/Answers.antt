use Rattle.cell_square.specs.Square.{step_of}
use Rattle.cell_square.proofs.step_by.Goals as goal

pub returns : goal.returns
returns c = unfold step_of in rw (c.pick-2.ensures, c.pick.ensures, c.in_half-low_in.ensures, c.in_half-high_in.ensures)
