use Rattle.potentials.specs.Calls.{coulomb_ranges}
use Rattle.potentials_calls.proofs.asked.coulomb_ranges.Goals as goal

pub returns : goal.returns
returns c = unfold coulomb_ranges in cc
