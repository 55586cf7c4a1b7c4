use Rattle.potentials.specs.Calls.{lj_asked}
use Rattle.potentials_calls.proofs.asked.lj_asked.Goals as goal

pub returns : goal.returns
returns c = unfold lj_asked in cc
