use Rattle.potentials.proofs.Laid.{box_turned}
use Rattle.potentials.proofs.rows.turn_all.Goals as goal

pub returns : goal.returns
returns c = box_turned c.args.s c.requires.0 c.turn_axis-x.ensures c.turn_axis-y.ensures c.turn_axis-z.ensures c.square_all.ensures
