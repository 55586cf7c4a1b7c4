use Rattle.fire.specs.Steer.{powered_by}
use Rattle.fire.proofs.steer.add_power.Goals as goal

pub returns : goal.returns
unfolding powered_by
returns c = rw (c.dot.ensures, c.norm2.ensures, c.norm2-2.ensures)
