use Rattle.neighbor_asked.proofs.Displaced.{still_in_box}
use Rattle.neighbor_asked.proofs.strays.is_still.Goals as goal

pub returns : goal.returns
returns c = still_in_box _ _ _ _ c.in_box.ensures c.side.ensures c.side-2.ensures c.side-3.ensures c.norm2.ensures
