use Rattle.neighbor_grid.specs.Grid.{narrow}
use Rattle.neighbor_grid.proofs.planning.is_narrow.Goals as goal

pub returns : goal.returns
unfolding narrow
returns c = c.is_narrow.ensures
