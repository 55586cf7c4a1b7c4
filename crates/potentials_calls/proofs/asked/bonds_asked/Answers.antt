use Rattle.potentials.specs.Calls.{bonds_asked}
use Rattle.potentials_calls.proofs.asked.bonds_asked.Goals as goal

pub returns : goal.returns
returns c = unfold bonds_asked in cc
