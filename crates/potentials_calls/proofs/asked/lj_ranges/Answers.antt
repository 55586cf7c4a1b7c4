use Rattle.potentials.specs.Calls.{lj_ranges}
use Rattle.potentials_calls.proofs.asked.lj_ranges.Goals as goal

pub returns : goal.returns
returns c = unfold lj_ranges in cc
