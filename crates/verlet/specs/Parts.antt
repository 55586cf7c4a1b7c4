-- What the kernels of a step do: the source's loops where the lists fit each other, else nothing. A call that tested its arguments has the first. Definitions only.
use Rattle.std.specs.Prelude.{None, Option, Some}
use Rattle.verlet.specs.declared.Thermostat.{Thermostat}
use Rattle.std.specs.Prelude.{Bool, false, cond, ◌&&◌, List, ℕ, ◌*◌, eqb, Float, length}
use Rattle.lists.specs.Atoms.{atoms_of}
pub use Rattle.cell.specs.Ranged.{coordinate}
use Rattle.lists.specs.Lists.{every}
use Rattle.virial.specs.declared.Units.{Units}
use Rattle.virial.specs.Calls.{few_atoms}
use Rattle.verlet.specs.Verlet.{berendsen_of, kicked_of, drifted_of, moved_of}

-- Berendsen on at most 16,384 atoms
unfoldable pub rescaled_by : Units → (dt target tau : Float) (ms vs : List Float) → List Float
rescaled_by units dt target tau ms vs = cond (few_atoms (atoms_of vs)) (berendsen_of units dt target tau ms vs) vs

-- `verlet_step`, lines 196 to 198
unfoldable pub thermostat_by : Option Thermostat → Units → (dt : Float) (ms vs : List Float) → List Float
thermostat_by None units dt ms vs = vs
thermostat_by (Some t) units dt ms vs = rescaled_by units dt t.target_k t.tau_fs ms vs

-- three floats an atom
unfoldable pub three_each : (floats masses : ℕ) → Bool
three_each floats masses = eqb floats (3 * masses)

unfoldable pub kick_fits : (fs ms vs : List Float) → Bool
kick_fits fs ms vs = three_each (length vs) (length ms) && three_each (length fs) (length ms)

unfoldable pub move_fits : (fs ms xs vs : List Float) → Bool
move_fits fs ms xs vs = kick_fits fs ms vs && three_each (length xs) (length ms)

-- `verlet_step`, lines 190 to 194
unfoldable pub kicked_by : Units → (dt : Float) (fs ms vs : List Float) → List Float
kicked_by units dt fs ms vs = cond (kick_fits fs ms vs) (kicked_of units dt fs ms vs) vs

-- `verlet_step`, lines 178 to 184: positions and velocities
unfoldable pub moved_by : Units → (dt : Float) (fs ms xs vs : List Float) → List Float × List Float
moved_by units dt fs ms xs vs = cond (move_fits fs ms xs vs) (moved_of units dt fs ms xs vs) (xs, vs)

-- "The drift is tested (3) .. before anything is stored": every drifted coordinate is in range
unfoldable pub drifts : Units → (dt : Float) (fs ms xs vs : List Float) → Bool
drifts units dt fs ms xs vs = cond (move_fits fs ms xs vs) (every coordinate (drifted_of dt (kicked_of units dt fs ms vs) xs)) false
