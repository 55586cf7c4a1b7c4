use Rattle.verlet.specs.Parts.{thermostat_by}
use Rattle.verlet.proofs.kernel.thermostat.Goals as goal

pub returns-in-None : goal.returns-in-None
unfolding thermostat_by
returns-in-None c = rw c.in-None.is

pub returns-in-Some : goal.returns-in-Some
unfolding thermostat_by
returns-in-Some c = rw c.in-Some.is c.rescale.ensures
