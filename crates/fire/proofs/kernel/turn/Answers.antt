use Rattle.fire.proofs.Turns.{turned_by_lem}
use Rattle.fire.proofs.kernel.turn.Goals as goal

pub pace-requires : goal.pace-requires
pace-requires c = c.requires

pub returns : goal.returns
returns c = turned_by_lem c.args.dt_max c.args.s _ _ _ _ _ _ _ _ c.advance-r.ensures c.pace.ensures
