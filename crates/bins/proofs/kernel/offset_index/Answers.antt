use Rattle.bins.proofs.Signs.{passed_small, step_is}
use Rattle.bins.proofs.StencilLaws.{off_x, off_y, off_z, to_cell}
use Rattle.bins.proofs.kernel.offset_index.Goals as goal

pub step_on-requires : goal.step_on-requires
step_on-requires c = passed_small c.args.s 0 c.step_of.ensures

pub returns-in_err-x : goal.returns-in_err-x
returns-in_err-x c = rw c.from_residual.ensures (off_x c.args.g c.args.c c.args.s (step_is c.args.g.x c.args.c.x c.args.s 0 c.step_of.ensures c.step_on.ensures c.in_err-x.was))

pub step_on-requires-2 : goal.step_on-requires-2
step_on-requires-2 c = passed_small c.args.s 1 c.step_of-2.ensures

pub returns-in_err-y : goal.returns-in_err-y
returns-in_err-y c = rw c.from_residual-in_err-y.ensures (off_y c.args.g c.args.c c.args.s (step_is c.args.g.x c.args.c.x c.args.s 0 c.step_of.ensures c.step_on.ensures c.in_ok-x.was)
    (step_is c.args.g.y c.args.c.y c.args.s 1 c.step_of-2.ensures c.step_on-2.ensures c.in_err-y.was))

pub step_on-requires-3 : goal.step_on-requires-3
step_on-requires-3 c = passed_small c.args.s 2 c.step_of-3.ensures

pub returns-in_err-z : goal.returns-in_err-z
returns-in_err-z c = rw c.from_residual-in_err-z.ensures (off_z c.args.g c.args.c c.args.s (step_is c.args.g.x c.args.c.x c.args.s 0 c.step_of.ensures c.step_on.ensures c.in_ok-x.was)
    (step_is c.args.g.y c.args.c.y c.args.s 1 c.step_of-2.ensures c.step_on-2.ensures c.in_ok-y.was)
    (step_is c.args.g.z c.args.c.z c.args.s 2 c.step_of-3.ensures c.step_on-3.ensures c.in_err-z.was))

pub returns : goal.returns
returns c = to_cell c.args.g c.args.c c.args.s (step_is c.args.g.x c.args.c.x c.args.s 0 c.step_of.ensures c.step_on.ensures c.in_ok-x.was)
    (step_is c.args.g.y c.args.c.y c.args.s 1 c.step_of-2.ensures c.step_on-2.ensures c.in_ok-y.was)
    (step_is c.args.g.z c.args.c.z c.args.s 2 c.step_of-3.ensures c.step_on-3.ensures c.in_ok-z.was)
