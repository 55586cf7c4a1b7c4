use Rattle.neighbor.specs.State.{skin_of}
use Rattle.neighbor.proofs.states.skin.Goals as goal

pub returns : goal.returns
unfolding skin_of
returns c = cc
