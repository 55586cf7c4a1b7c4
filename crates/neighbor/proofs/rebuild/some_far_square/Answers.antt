use Rattle.cell.specs.Vec.{position_at}
use Rattle.neighbor_asked.proofs.Displaced.{none_strays}
use Rattle.neighbor.proofs.rebuild.some_far_square.Goals as goal

pub returns-then-all_still : goal.returns-then-all_still
returns-then-all_still c = none_strays c.args.p c.args.limit (position_at c.args.xs.now) (position_at c.args.refs.now) _ c.all_still.ensures c.if-all_still.true
