use Rattle.potentials.specs.Calls.{coulomb_asked}
use Rattle.potentials_calls.proofs.asked.coulomb_asked.Goals as goal

pub returns : goal.returns
returns c = unfold coulomb_asked in cc
