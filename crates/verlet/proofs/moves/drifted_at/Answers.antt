use Rattle.verlet.proofs.moves.drifted_at.Goals as goal

pub returns : goal.returns
returns c = rw c.kick_one-v.ensures
