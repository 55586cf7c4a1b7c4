use Rattle.potentials_pair.specs.Lj.{sigma_of}
use Rattle.potentials_pair.proofs.lennard_jones.sigma.Goals as goal

pub returns-in-HalfSum : goal.returns-in-HalfSum
returns-in-HalfSum c = unfold sigma_of in rw c.in-HalfSum.is

pub returns-in-Geometric : goal.returns-in-Geometric
returns-in-Geometric c = unfold sigma_of in rw (c.in-Geometric.is, c.quick_root.ensures)
