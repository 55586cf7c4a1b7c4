use mathlib.Core.Bool.{true, false}
use Rattle.float.proofs.Branches.{yes}
use Rattle.cell_square.proofs.Law.{picked_is, side_says}
use Rattle.cell_square.proofs.side.Goals as goal

pub returns-then-rest-t : goal.returns-then-rest-t
returns-then-rest-t c = side_says _ _ _ _ (yes c.well_formed.0.1) (picked_is _ _ _ c.magnitude-t.ensures true c.if-rest-t.true)

pub returns-else-rest-t : goal.returns-else-rest-t
returns-else-rest-t c = side_says _ _ _ _ (yes c.well_formed.0.1) (picked_is _ _ _ c.magnitude-t.ensures false c.if-rest-t.false)
