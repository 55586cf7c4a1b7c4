use Rattle.neighbor.specs.State.{emptied_of}
use Rattle.neighbor.proofs.states.emptied.Goals as goal

pub returns : goal.returns
unfolding emptied_of
returns c = simp c.skin.ensures
