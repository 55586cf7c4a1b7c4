use Rattle.potentials.specs.Ranged.{bond_in_range}
use Rattle.potentials.proofs.ranged.bond_in_range.Goals as goal

pub returns : goal.returns
returns c = unfold bond_in_range in cc
