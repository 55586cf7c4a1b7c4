use Rattle.neighbor_grid.proofs.Sizes.{bins_back}
use Rattle.neighbor_grid.specs.Grid.{size_of}
use mathlib.Core.Path.{ap, ◌∙◌}
use Rattle.neighbor_grid.proofs.planning.size_in.Goals as goal

pub returns : goal.returns
returns c = (c.size_of.ensures.0 ∙ rw c.bins_in.ensures (ap size_of (bins_back _ _)), c.size_of.ensures.1)
