use Rattle.neighbor_grid.specs.Grid.{boxed_of}
use Rattle.neighbor_grid.proofs.measuring.boxed.Goals as goal

pub returns : goal.returns
unfolding boxed_of
returns c = cc
