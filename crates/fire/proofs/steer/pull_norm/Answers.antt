use Rattle.fire.specs.Steer.{pull_norm}
use Rattle.fire.proofs.steer.pull_norm.Goals as goal

pub returns : goal.returns
unfolding pull_norm
returns c = rw (c.max.ensures, c.root.ensures)
