use Rattle.neighbor_grid.specs.Grid.{folded_of}
use Rattle.neighbor_grid.proofs.measuring.folded.Goals as goal

pub returns : goal.returns
unfolding folded_of
returns c = cc
