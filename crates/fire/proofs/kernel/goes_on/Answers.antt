use Rattle.fire.specs.Calls.{goes_on}
use Rattle.fire.proofs.kernel.goes_on.Goals as goal

pub returns-in-Err : goal.returns-in-Err
unfolding goes_on
returns-in-Err c = rw c.in-Err.is

pub returns : goal.returns
unfolding goes_on
returns c = rw c.in_default.is
