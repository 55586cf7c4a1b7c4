use Rattle.cell_square.specs.Square.{low_sum}
use Rattle.cell_square.proofs.low_sum.Goals as goal

pub returns : goal.returns
returns c = unfold low_sum in rw (c.low_times.ensures, c.low_times-2.ensures, c.low_times-3.ensures)
