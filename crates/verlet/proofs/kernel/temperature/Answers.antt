use Rattle.verlet.specs.Verlet.{temperature_of}
use Rattle.verlet.proofs.kernel.temperature.Goals as goal

pub returns-then-dof : goal.returns-then-dof
unfolding temperature_of
returns-then-dof c = rw c.if-dof.true

pub returns : goal.returns
unfolding temperature_of
returns c = rw (c.if-dof.false, c.kinetic_energy.ensures)
