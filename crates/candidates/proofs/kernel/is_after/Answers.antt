use Rattle.bins.specs.Axis.{follows}
use Rattle.candidates.proofs.kernel.is_after.Goals as goal

pub returns : goal.returns
unfolding follows
returns c = rw (c.wide-next.ensures.0, c.wide.ensures.0, c.wide-2.ensures.0)
