use Rattle.verlet_step.specs.Calls.{cooled_of}
use Rattle.verlet_step.proofs.ends.cool.Goals as goal

pub returns-in-Err : goal.returns-in-Err
unfolding cooled_of
returns-in-Err c = rw c.in-Err.is

pub returns : goal.returns
unfolding cooled_of
returns c = rw c.in_default.is c.thermostat.ensures
