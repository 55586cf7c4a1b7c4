use Rattle.neighbor_asked.proofs.Displaced.{strays_in_box}
use Rattle.neighbor_asked.proofs.strays.is_far.Goals as goal

pub returns-then-in_box : goal.returns-then-in_box
returns-then-in_box c = strays_in_box _ _ _ _ c.in_box.ensures c.if-in_box.true c.side.ensures c.side-then-in_box.ensures c.side-then-in_box-2.ensures c.norm2.ensures

pub returns : goal.returns
returns c = c.is_far_long.ensures
