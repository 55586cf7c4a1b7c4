use Rattle.strike.proofs.Passed.{angles_closed}
use Rattle.strike.proofs.close_angles.Goals as goal

pub returns : goal.returns
returns c = angles_closed c.args.marks.now c.args.angles.now c.close_names-c.new.names c.args.per_angle.now c.close_beside-a.new.xs (record { names = c.close_names-c.result; first = c.close_beside-a.result; second = 0 }) c.close_beside-a.ensures c.close_names-c.ensures
