use Rattle.neighbor_asked.proofs.Displaced.{enough_says}
use Rattle.neighbor_asked.proofs.strays.is_enough.Goals as goal

pub returns : goal.returns
returns c = enough_says _ _ _ c.is_roomy.ensures c.is_roomy-2.ensures c.is_roomy-3.ensures c.norm2-most.ensures
