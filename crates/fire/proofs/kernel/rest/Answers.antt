use Rattle.fire.specs.Steps.{paced_first}
use Rattle.fire.proofs.kernel.rest.Goals as goal

pub returns-in-Err : goal.returns-in-Err
unfolding paced_first
returns-in-Err c = rw (c.stage_of.ensures, c.first_step-last.ensures, c.fresh-gait.ensures, c.in-Err.is) (rw (← c.in-Err.is))

pub returns : goal.returns
unfolding paced_first
returns c = rw (c.stage_of-2.ensures, c.largest-m.ensures, c.clear.ensures, c.first_step-last.ensures, c.fresh-gait.ensures, c.in_default.is) (rw (← c.in_default.is))
