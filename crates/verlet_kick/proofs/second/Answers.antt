use Rattle.verlet_kick.specs.Kick.{second_kick_after}
use Rattle.verlet_kick.proofs.second.Goals as goal

pub returns-in-Err : goal.returns-in-Err
unfolding second_kick_after
returns-in-Err c = rw c.in-Err.is

pub returns : goal.returns
unfolding second_kick_after
returns c = rw (c.kick.ensures, c.in_default.is)
