-- 01's ranges, as tests of what this crate is handed. Definitions only.
use Rattle.std.specs.Prelude.{None, Option, Some}
use Rattle.verlet.specs.declared.Thermostat.{Thermostat}
use Rattle.std.specs.Prelude.{Bool, true, ◌&&◌, List, Float}
use Rattle.float.specs.Arith.{bits}
use Rattle.lists.specs.Lists.{every}
use Rattle.ranges.specs.Ranged.{within, between}
use Rattle.virial.specs.declared.Units.{Units}
use Rattle.virial.specs.Ranged.{plain, velocity, mass, units_in_range}

-- "Charges and time step: magnitude to 2^10"
unfoldable pub time_step : Float → Bool
time_step x = within (bits 0x4090000000000000) x

-- "Target temperature 0 to 2^20, `tau_fs` 2^-10 to 2^20"
unfoldable pub thermal : (target tau : Float) → Bool
thermal target tau = between (bits 0) (bits 0x4130000000000000) target && between (bits 0x3f50000000000000) (bits 0x4130000000000000) tau

unfoldable pub thermostat_in_range : Option Thermostat → Bool
thermostat_in_range None = true
thermostat_in_range (Some t) = thermal t.target_k t.tau_fs

-- the numbers of each call: all four units, and every number of a table or store
unfoldable pub atoms_in_range : Units → (vs ms : List Float) → Bool
atoms_in_range units vs ms = units_in_range units && every velocity vs && every mass ms

unfoldable pub temperature_in_range : Units → (dof : Float) (vs ms : List Float) → Bool
temperature_in_range units dof vs ms = plain dof && atoms_in_range units vs ms

unfoldable pub berendsen_in_range : Units → (dt target tau : Float) (ms vs : List Float) → Bool
berendsen_in_range units dt target tau ms vs = time_step dt && thermal target tau && atoms_in_range units vs ms
