use Rattle.cell_square.specs.Square.{high_sum}
use Rattle.cell_square.proofs.high_sum.Goals as goal

pub returns : goal.returns
returns c = unfold high_sum in rw (c.high_times.ensures, c.high_times-2.ensures, c.high_times-3.ensures)
