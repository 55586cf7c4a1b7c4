-- verlet.rs as definitions, in the source's order, one rounding an operation; three floats an atom. Definitions only.
use Rattle.std.specs.Prelude.{cond, List, ℕ, ◌/◌, min, eqb, Float, pos, length}
use Rattle.std.specs.Float.Ieee.{le, of_int}
use Rattle.std.specs.Float.{binary64}
use Rattle.lists.specs.Atoms.{atoms_of}
use Rattle.float.specs.Literals.{f0, f1, f2, f3, half}
use Rattle.cell.specs.declared.Vec3.{Vec3}
use Rattle.cell.specs.Vec.{scale_of, norm2_of}
use Rattle.float.specs.Arith.{◌⊕◌, ◌⊖◌, ◌⊗◌, ◌⊘◌, bits, at}
use Rattle.float.specs.Def.{max_of, root_of}
use Rattle.lists.specs.Loops.{fold_up_to, map_at}
use Rattle.virial.specs.declared.Units.{Units}
use Rattle.virial.specs.Virial.{added_at, velocity_at}

-- ---- kinetic energy and temperature

-- `kinetic_energy`, line 142: what an atom of mass m and velocity v adds
unfoldable pub kinetic_at : (accel m : Float) → Vec3 → Float
kinetic_at accel m v = half ⊗ m ⊗ norm2_of v ⊘ accel

-- lines 140 to 144: atom by atom, as far as both lists go
unfoldable pub kinetic_energy_of : Units → (vs ms : List Float) → Float
kinetic_energy_of units vs ms =
    fold_up_to (λ k ke. ke ⊕ kinetic_at units.force_to_accel (at ms k) (velocity_at vs k)) (min (atoms_of vs) (length ms)) f0

-- `temperature`, lines 150 to 153
unfoldable pub temperature_of : Units → (dof : Float) (vs ms : List Float) → Float
temperature_of units dof vs ms = cond (le dof f0) f0 (f2 ⊗ kinetic_energy_of units vs ms ⊘ (dof ⊗ units.kb_ev_per_k))

-- ---- `apply_berendsen`

-- line 207: the degrees of freedom of n atoms
unfoldable pub degrees_of : ℕ → Float
degrees_of n = f3 ⊗ of_int binary64 (pos n)

-- lines 207 to 209: `cur_t`
unfoldable pub current_of : Units → (ms vs : List Float) → Float
current_of units ms vs = f2 ⊗ kinetic_energy_of units vs ms ⊘ (degrees_of (atoms_of vs) ⊗ units.kb_ev_per_k)

-- lines 214 to 216, at the temperature t
unfoldable pub lambda_of : (dt target tau t : Float) → Float
lambda_of dt target tau t = root_of (max_of (f1 ⊕ dt ⊘ tau ⊗ (target ⊘ t ⊖ f1)) f0)

-- lines 217 to 219
abbrev pub scale_at : Float → ℕ → Float → Float
scale_at s k v = v ⊗ s

unfoldable pub scaled_by : Float → List Float → List Float
scaled_by s vs = map_at (scale_at s) vs

-- lines 203 to 219: nothing with no atoms, or at a temperature of at most 1e-12
unfoldable pub berendsen_of : Units → (dt target tau : Float) (ms vs : List Float) → List Float
berendsen_of units dt target tau ms vs =
    cond (eqb (atoms_of vs) 0)
    vs
    (cond (le (current_of units ms vs) (bits 0x3d719799812dea11))
    vs
    (scaled_by (lambda_of dt target tau (current_of units ms vs)) vs))

-- ---- the loops of `verlet_step`, float by float; float k belongs to atom k / 3

-- lines 179 to 181, and 191 to 193: v += f * (FORCE_TO_ACCEL / m) * (0.5 * dt); h is 0.5 * dt
unfoldable pub kick_of : (accel h f m v : Float) → Float
kick_of accel h f m v = v ⊕ f ⊗ (accel ⊘ m) ⊗ h

abbrev pub kick_at : (accel h : Float) (fs ms : List Float) → ℕ → Float → Float
kick_at accel h fs ms k v = kick_of accel h (at fs k) (at ms (k / 3)) v

-- half a kick of every atom
unfoldable pub kicked_of : Units → (dt : Float) (fs ms vs : List Float) → List Float
kicked_of units dt fs ms vs = map_at (kick_at units.force_to_accel (half ⊗ dt) fs ms) vs

-- lines 182 and 183: x += v * dt
abbrev pub drift_at : Float → List Float → ℕ → Float → Float
drift_at dt vs k x = x ⊕ at vs k ⊗ dt

unfoldable pub drifted_of : (dt : Float) (vs xs : List Float) → List Float
drifted_of dt vs xs = map_at (drift_at dt vs) xs

-- lines 178 to 184, positions and velocities: all are kicked, and then all drift
unfoldable pub moved_of : Units → (dt : Float) (fs ms xs vs : List Float) → List Float × List Float
moved_of units dt fs ms xs vs = (drifted_of dt (kicked_of units dt fs ms vs) xs, kicked_of units dt fs ms vs)

-- the same lines as they stand, atom by atom and vector by vector. proofs/Fused.antt: where there are three floats an atom it is `movedOf`
unfoldable pub kicked_atom : Units → (dt : Float) (fs ms : List Float) → ℕ → List Float → List Float
kicked_atom units dt fs ms i vs = added_at vs i (scale_of (scale_of (velocity_at fs i) (units.force_to_accel ⊘ at ms i)) (half ⊗ dt))

unfoldable pub drifted_atom : (dt : Float) (vs : List Float) → ℕ → List Float → List Float
drifted_atom dt vs i xs = added_at xs i (scale_of (velocity_at vs i) dt)

unfoldable pub moved_atom : Units → (dt : Float) (fs ms : List Float) → ℕ → List Float × List Float → List Float × List Float
moved_atom units dt fs ms i s = (drifted_atom dt (kicked_atom units dt fs ms i s.1) i s.0, kicked_atom units dt fs ms i s.1)

unfoldable pub moved_by_atoms : Units → (dt : Float) (fs ms xs vs : List Float) → List Float × List Float
moved_by_atoms units dt fs ms xs vs = fold_up_to (moved_atom units dt fs ms) (length ms) (xs, vs)
