use Rattle.neighbor.specs.State.{fresh_of}
use Rattle.neighbor.proofs.states.fresh.Goals as goal

pub returns : goal.returns
unfolding fresh_of
returns c = simp c.max.ensures
