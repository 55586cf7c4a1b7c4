-- What a step asks beside an evaluation, at 1 and at 3; a finishing call asks the same with another limit for the velocities. Definitions only.
use Rattle.std.specs.Prelude.{Option}
use Rattle.verlet.specs.declared.Thermostat.{Thermostat}
use Rattle.std.specs.Prelude.{ℕ, ◌/◌, Bool, ◌&&◌, List, eqb, Float}
use Rattle.lists.specs.Lists.{every}
use Rattle.ranges.specs.Ranged.{within}
use Rattle.cell.specs.Ranged.{entry_limit, other_limit}
use Rattle.virial.specs.Ranged.{plain, mass}
use Rattle.verlet.specs.Ranged.{time_step, thermostat_in_range}

-- "velocities ..: magnitude to 2^20"
abbrev pub step_limit : Float
step_limit = entry_limit

-- "a finishing call resumes there, taking velocities to 2^500"
abbrev pub finish_limit : Float
finish_limit = other_limit

-- 1: velocities as long as positions, a mass an atom; that the forces are as long is asked by an evaluation. The arguments are lengths
unfoldable pub motion_fits : (positions velocities masses : ℕ) → Bool
motion_fits positions velocities masses = eqb velocities positions && eqb masses (positions / 3)

-- 3: the time step, the thermostat, the masses, the velocities, the old forces and the old potential
unfoldable pub motion_ok : (limit dt : Float) → Option Thermostat → (masses velocities forces : List Float) → (potential : Float) → Bool
motion_ok limit dt thermostat masses velocities forces potential =
    time_step dt && thermostat_in_range thermostat && every mass masses && every (within limit) velocities && every plain forces && plain potential
