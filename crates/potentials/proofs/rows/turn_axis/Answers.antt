use Rattle.float.proofs.Branches.{yes}
use Rattle.potentials.proofs.Laid.{axis_still, axis_settled}
use Rattle.potentials.proofs.rows.turn_axis.Goals as goal

pub returns-then-settle : goal.returns-then-settle
returns-then-settle c = axis_still c.settle.ensures c.if-settle.true

pub returns : goal.returns
returns c = axis_settled (yes c.well_formed.0.1) c.settle.ensures c.all_near.ensures
