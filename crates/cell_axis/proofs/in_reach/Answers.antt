-- `cell_axis::in_reach` meets its contract: it is the definition. Assumes nothing.
use Rattle.cell_axis.specs.Image.{in_reach}
use borrow.Author.Rules.{rules}
use Rattle.cell_axis.proofs.in_reach.Goals as goal

pub returns : goal.returns
unfolding in_reach
returns c = search rules
