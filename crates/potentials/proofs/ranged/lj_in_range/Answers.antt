use Rattle.potentials.specs.Ranged.{lj_in_range}
use Rattle.potentials.proofs.ranged.lj_in_range.Goals as goal

pub returns : goal.returns
returns c = unfold lj_in_range in cc
