use Rattle.potentials_pair.specs.Lj.{mix_of}
use Rattle.potentials_pair.proofs.lennard_jones.mix.Goals as goal

pub returns : goal.returns
returns c = unfold mix_of in rw (c.quick_root.ensures, c.sigma.ensures)
