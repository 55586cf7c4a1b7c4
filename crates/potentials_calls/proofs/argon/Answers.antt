use Rattle.potentials.specs.Calls.{argon_of}
use Rattle.potentials_calls.proofs.argon.Goals as goal

pub returns : goal.returns
returns c = unfold argon_of in c.monatomic.ensures
