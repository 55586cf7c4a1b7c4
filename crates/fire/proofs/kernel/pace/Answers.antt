use Rattle.fire.specs.Steps.{paced_after}
use Rattle.fire.proofs.kernel.pace.Goals as goal

pub returns-in-Err : goal.returns-in-Err
unfolding paced_after
returns-in-Err c = rw (c.stage_of.ensures, c.in-Err.is) (rw (← c.in-Err.is))

pub returns : goal.returns
unfolding paced_after
returns c = rw (c.stage_of-2.ensures, c.largest-m.ensures, c.in_default.is, ← c.steer-next.ensures) (rw (← c.in_default.is))
