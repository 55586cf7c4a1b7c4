use Rattle.neighbor.proofs.states.full.Goals as goal

pub returns : goal.returns
returns c = simp c.emptied.ensures
