use Rattle.neighbor.specs.State.{radius_of}
use Rattle.neighbor.proofs.states.radius.Goals as goal

pub returns : goal.returns
unfolding radius_of
returns c = simp c.skin.ensures
