-- What each public call answers, and what it leaves in the lent velocities: one relation a call. Tests in 01's order, 1, 2, 3; a refusal leaves the velocities as they came. Definitions only.
use Rattle.std.specs.Prelude.{Result}
use Rattle.answer.specs.declared.Refusal.{Refusal}
use Rattle.std.specs.Prelude.{◌≡◌, Bool, cond, List, ◌*◌, eqb, Float, length}
use Rattle.answer.specs.Seen.{Seen, answered, refused, seen}
use Rattle.virial.specs.declared.Units.{Units}
use Rattle.virial.specs.Calls.{few_atoms}
use Rattle.verlet.specs.Ranged.{atoms_in_range, temperature_in_range, berendsen_in_range}
use Rattle.verlet.specs.Verlet.{kinetic_energy_of, temperature_of, berendsen_of}

-- 1: velocities that are not three a mass; 2: too many masses; 3: a number out of range
unfoldable pub seen_of : {A : Type 0} → (vs ms : List Float) (ranged : Bool) → A → Seen A
seen_of vs ms ranged a =
    cond (eqb (length vs) (3 * length ms))
    (cond (few_atoms (length ms))
    (cond ranged (answered a) (refused 3 0))
    (refused 2 (length ms)))
    (refused 1 0)

abbrev pub KineticEnergySays : (units : Units) (velocities masses : List Float) → Result Float Refusal → Type 0
KineticEnergySays units vs ms r = seen r ≡ seen_of vs ms (atoms_in_range units vs ms) (kinetic_energy_of units vs ms)

abbrev pub TemperatureSays : (units : Units) (dof : Float) (velocities masses : List Float) → Result Float Refusal → Type 0
TemperatureSays units dof vs ms r = seen r ≡ seen_of vs ms (temperature_in_range units dof vs ms) (temperature_of units dof vs ms)

unfoldable pub berendsen_outcome : Units → (dt target tau : Float) (ms vs : List Float) → Seen (Unit {0}) × List Float
berendsen_outcome units dt target tau ms vs =
    cond (eqb (length vs) (3 * length ms))
    (cond (few_atoms (length ms))
    (cond (berendsen_in_range units dt target tau ms vs)
    (answered tt, berendsen_of units dt target tau ms vs)
    (refused 3 0, vs))
    (refused 2 (length ms), vs))
    (refused 1 0, vs)

abbrev pub BerendsenSays : (units : Units) (dt target tau : Float) (masses velocities : List Float) → Result (Unit {0}) Refusal → (after : List Float) → Type 0
BerendsenSays units dt target tau ms vs r after = (seen r, after) ≡ berendsen_outcome units dt target tau ms vs
