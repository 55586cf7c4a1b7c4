use Rattle.neighbor_asked.proofs.Displaced.{none_far}
use Rattle.neighbor.proofs.rebuild.some_far_near.Goals as goal

pub returns-then-all_near : goal.returns-then-all_near
returns-then-all_near c = none_far c.args.p c.args.limit c.args.t c.args.xs.now c.args.refs.now c.args.from c.args.to c.requires.3 c.all_near.ensures c.if-all_near.true
