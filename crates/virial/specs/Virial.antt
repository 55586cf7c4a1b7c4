-- virial.rs as definitions: the bundle of energy, forces and virial, and the pressures, in the source's order, one rounding an operation. Definitions only.
use Rattle.std.specs.Prelude.{cond, List, [], ◌∷◌, ℕ, ◌+◌, ◌*◌, min, ltb, Float, length, replicate, set}
use Rattle.std.specs.Float.Ieee.{le, neg}
use Rattle.lists.specs.Atoms.{atoms_of}
use Rattle.float.specs.Literals.{f0, f1, f2, f3}
use Rattle.cell.specs.declared.Vec3.{Vec3}
use Rattle.cell.specs.Vec.{scale_of}
use Rattle.float.specs.Arith.{◌⊕◌, ◌⊗◌, ◌⊘◌, at, row, entry}
use Rattle.lists.specs.Loops.{fold_up_to}
use Rattle.virial.specs.declared.Sum.{Sum}
use Rattle.virial.specs.declared.Units.{Units}

-- ---- Contribution. A list of forces has three floats an atom.

-- `zeros`, lines 35 to 41: energy and virial, and the forces of n floats
unfoldable pub zero_sum : Sum
zero_sum = record { energy = f0; xx = f0; xy = f0; xz = f0; yx = f0; yy = f0; yz = f0; zx = f0; zy = f0; zz = f0 }

unfoldable pub zero_forces : ℕ → List Float
zero_forces n = replicate n f0

-- `merge`, line 48 and lines 55 to 59: energy and virial
unfoldable pub merged_sum : Sum → Sum → Sum
merged_sum s t =
    record {
      energy = s.energy ⊕ t.energy;
      xx = s.xx ⊕ t.xx;
      xy = s.xy ⊕ t.xy;
      xz = s.xz ⊕ t.xz;
      yx = s.yx ⊕ t.yx;
      yy = s.yy ⊕ t.yy;
      yz = s.yz ⊕ t.yz;
      zx = s.zx ⊕ t.zx;
      zy = s.zy ⊕ t.zy;
      zz = s.zz ⊕ t.zz;
    }

-- `merge`, lines 52 to 54: each force of the first list with that of the second added, as far as both go; the later ones stay
unfoldable pub merged_forces : List Float → List Float → List Float
merged_forces [] added = []
merged_forces (x ∷ forces) [] = x ∷ forces
merged_forces (x ∷ forces) (y ∷ added) = (x ⊕ y) ∷ merged_forces forces added

-- vec3::add_assign at atom i: v added to its three floats; nothing where there is no such atom
unfoldable pub added_at : List Float → ℕ → Vec3 → List Float
added_at l i v =
    cond (ltb i (atoms_of l))
    (set (set (set l (3 * i) (at l (3 * i) ⊕ v.x)) (3 * i + 1) (at l (3 * i + 1) ⊕ v.y)) (3 * i + 2) (at l (3 * i + 2) ⊕ v.z))
    l

-- `add_pair_force`, lines 67 and 68: f on atom i, then f times -1 on atom j
unfoldable pub forces_with_pair : List Float → ℕ → ℕ → Vec3 → List Float
forces_with_pair l i j f = added_at (added_at l i f) j (scale_of f (neg f1))

-- `virial_from_pair`, lines 76 to 80, on three rows of three floats: W[a][b] += d[a] * f[b]
unfoldable pub row_with_pair : List Float → Float → Vec3 → List Float
row_with_pair w d f = (at w 0 ⊕ d ⊗ f.x) ∷ (at w 1 ⊕ d ⊗ f.y) ∷ (at w 2 ⊕ d ⊗ f.z) ∷ []

unfoldable pub with_pair : List (List Float) → Vec3 → Vec3 → List (List Float)
with_pair w d f = row_with_pair (row w 0) d.x f ∷ row_with_pair (row w 1) d.y f ∷ row_with_pair (row w 2) d.z f ∷ []

-- the same on the nine floats of a sum (proofs/Sums.antt: row by row it is `withPair`), and an energy added
unfoldable pub sum_with_pair : Sum → Vec3 → Vec3 → Sum
sum_with_pair s d f =
    record {
      energy = s.energy;
      xx = s.xx ⊕ d.x ⊗ f.x;
      xy = s.xy ⊕ d.x ⊗ f.y;
      xz = s.xz ⊕ d.x ⊗ f.z;
      yx = s.yx ⊕ d.y ⊗ f.x;
      yy = s.yy ⊕ d.y ⊗ f.y;
      yz = s.yz ⊕ d.y ⊗ f.z;
      zx = s.zx ⊕ d.z ⊗ f.x;
      zy = s.zy ⊕ d.z ⊗ f.y;
      zz = s.zz ⊕ d.z ⊗ f.z;
    }

unfoldable pub sum_with_energy : Sum → Float → Sum
sum_with_energy s e =
    record {
      energy = s.energy ⊕ e;
      xx = s.xx;
      xy = s.xy;
      xz = s.xz;
      yx = s.yx;
      yy = s.yy;
      yz = s.yz;
      zx = s.zx;
      zy = s.zy;
      zz = s.zz;
    }

-- `scalar_virial`, line 86
unfoldable pub scalar_virial_of : List (List Float) → Float
scalar_virial_of w = entry w 0 0 ⊕ entry w 1 1 ⊕ entry w 2 2

-- ---- the pressures

-- `pressure`, lines 96 to 99
unfoldable pub pressure_of : Float → Float → Float → Float
pressure_of kinetic scalar volume = cond (le volume f0) f0 ((f2 ⊗ kinetic ⊕ scalar) ⊘ (f3 ⊗ volume))

-- `pressure_tensor`, line 111
unfoldable pub zero_tensor : List (List Float)
zero_tensor = (f0 ∷ f0 ∷ f0 ∷ []) ∷ (f0 ∷ f0 ∷ f0 ∷ []) ∷ (f0 ∷ f0 ∷ f0 ∷ []) ∷ []

-- the velocity of atom i
unfoldable pub velocity_at : List Float → ℕ → Vec3
velocity_at vs i = record { x = at vs (3 * i); y = at vs (3 * i + 1); z = at vs (3 * i + 2) }

-- lines 116 to 120: P[a][b] += m * v[a] * v[b] / FORCE_TO_ACCEL; mv is m * v[a]
unfoldable pub row_with_atom : Float → List Float → Float → Vec3 → List Float
row_with_atom unit p mv v = (at p 0 ⊕ mv ⊗ v.x ⊘ unit) ∷ (at p 1 ⊕ mv ⊗ v.y ⊘ unit) ∷ (at p 2 ⊕ mv ⊗ v.z ⊘ unit) ∷ []

unfoldable pub with_atom : Float → List (List Float) → Float → Vec3 → List (List Float)
with_atom unit p m v =
    row_with_atom unit (row p 0) (m ⊗ v.x) v ∷ row_with_atom unit (row p 1) (m ⊗ v.y) v ∷ row_with_atom unit (row p 2) (m ⊗ v.z) v ∷ []

-- lines 115 to 121, for the first n atoms; the source goes as far as both lists do
unfoldable pub kinetic_of : Float → List Float → List Float → ℕ → List (List Float)
kinetic_of unit vs ms n = fold_up_to (λ k p. with_atom unit p (at ms k) (velocity_at vs k)) n zero_tensor

-- lines 122 to 126: P[a][b] = (P[a][b] + W[a][b]) / V
unfoldable pub row_over_volume : List Float → List Float → Float → List Float
row_over_volume p w volume = ((at p 0 ⊕ at w 0) ⊘ volume) ∷ ((at p 1 ⊕ at w 1) ⊘ volume) ∷ ((at p 2 ⊕ at w 2) ⊘ volume) ∷ []

unfoldable pub over_volume : List (List Float) → List (List Float) → Float → List (List Float)
over_volume p w volume =
    row_over_volume (row p 0) (row w 0) volume ∷ row_over_volume (row p 1) (row w 1) volume ∷ row_over_volume (row p 2) (row w 2) volume ∷ []

-- `pressure_tensor`, lines 111 to 127
unfoldable pub pressure_tensor_of : Units → Float → List (List Float) → List Float → List Float → List (List Float)
pressure_tensor_of units volume w vs ms =
    cond (le volume f0) zero_tensor (over_volume (kinetic_of units.force_to_accel vs ms (min (atoms_of vs) (length ms))) w volume)

-- `to_gpa`, line 133
unfoldable pub to_gpa_of : Units → Float → Float
to_gpa_of units p = p ⊗ units.ev_per_a3_to_gpa
