use Rattle.fire.proofs.kernel.end.Goals as goal

pub returns : goal.returns
returns c = rw c.converged.ensures
