use Rattle.bins.specs.Axis.{touch}
use Rattle.candidates.proofs.kernel.is_touching.Goals as goal

pub returns : goal.returns
unfolding touch
returns c = rw (c.is_after.ensures, c.is_after-2.ensures)
