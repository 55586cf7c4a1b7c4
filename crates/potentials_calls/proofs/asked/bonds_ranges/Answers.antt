use Rattle.potentials.specs.Calls.{bonds_ranges}
use Rattle.potentials_calls.proofs.asked.bonds_ranges.Goals as goal

pub returns : goal.returns
returns c = unfold bonds_ranges in cc
