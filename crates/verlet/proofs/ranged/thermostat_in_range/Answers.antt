use Rattle.verlet.specs.Ranged.{thermostat_in_range}
use Rattle.verlet.proofs.ranged.thermostat_in_range.Goals as goal

pub returns-in-None : goal.returns-in-None
unfolding thermostat_in_range
returns-in-None c = rw c.in-None.is

pub returns-in-Some : goal.returns-in-Some
unfolding thermostat_in_range
returns-in-Some c = rw c.in-Some.is c.thermal.ensures
