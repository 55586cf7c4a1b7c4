use Rattle.fire.specs.Calls.{converged_of}
use Rattle.fire.proofs.kernel.converged.Goals as goal

pub returns-in-Err : goal.returns-in-Err
unfolding converged_of
returns-in-Err c = rw c.in-Err.is

pub returns : goal.returns
unfolding converged_of
returns c = rw c.in_default.is
