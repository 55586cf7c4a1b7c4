use Rattle.neighbor.specs.State.{kept_of}
use Rattle.neighbor.proofs.states.kept.Goals as goal

pub returns : goal.returns
unfolding kept_of
returns c = simp c.skin.ensures
