use Rattle.cell_square.proofs.Between.{steady_says}
use Rattle.float.proofs.Branches.{yes}
use Rattle.cell_square.proofs.steady.Goals as goal

pub returns : goal.returns
returns c = steady_says _ _ _ _ _ (yes c.well_formed.0.1) c.is_steady.ensures
