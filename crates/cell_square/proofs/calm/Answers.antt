use Rattle.cell_square.proofs.Between.{calm_says}
use Rattle.float.proofs.Branches.{yes}
use Rattle.cell_square.proofs.calm.Goals as goal

pub returns : goal.returns
returns c = calm_says _ _ _ _ _ (yes c.well_formed.0.1) c.is_calm.ensures
