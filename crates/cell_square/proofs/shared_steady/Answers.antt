use Rattle.cell_square.proofs.Between.{shared_says}
use Rattle.float.proofs.Branches.{yes}
use Rattle.cell_square.proofs.shared_steady.Goals as goal

pub returns : goal.returns
returns c = shared_says _ _ _ _ _ _ (yes c.well_formed.0.1) c.is_steady.ensures
