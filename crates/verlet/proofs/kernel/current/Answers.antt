use Rattle.verlet.specs.Verlet.{current_of}
use Rattle.verlet.proofs.kernel.current.Goals as goal

pub returns : goal.returns
unfolding current_of
returns c = rw (c.degrees-dof.ensures, c.kinetic_energy-ke.ensures)
