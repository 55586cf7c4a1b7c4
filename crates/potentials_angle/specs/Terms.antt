-- The term over a table of angles in its order (potentials.rs, `HarmonicAngles::compute_all`, lines 312 to 359). Definitions only.
use Rattle.std.specs.Prelude.{Option}
use Rattle.cell.specs.declared.Lattice.{Lattice}
use Rattle.std.specs.Prelude.{cond, ℕ, ◌/◌, ltb, Float, length}
use mathlib.Core.List.{List, foldl}
use Rattle.lists.specs.Atoms.{atoms_of}
use Rattle.lists.specs.Lists.{up_to}
use Rattle.cell.specs.declared.Vec3.{Vec3}
use Rattle.cell.specs.declared.Image.{Image}
use Rattle.cell.specs.Cell.{image_of}
use Rattle.potentials_pair.specs.Pull.{Total}
use Rattle.potentials.specs.Terms.{zero_total, displaced}
use Rattle.potentials_angle.specs.declared.Angle.{Angle}
use Rattle.potentials_angle.specs.declared.Corner.{Corner}
use Rattle.potentials_angle.specs.declared.Bend.{Bend}
use Rattle.potentials_angle.specs.Bend.{bend_of, bent}
use Rattle.potentials_angle.specs.Ranged.{angle_row}
use Rattle.potentials_angle.specs.Rows.{corner_at, is_missing}

-- lines 315 to 319: "per angle or default"
unfoldable pub angle_at : List Float → ℕ → Angle → Angle
angle_at per r angle = cond (ltb r (length per / 2)) (angle_row per r) angle

-- lines 315 to 349, for row r: the arms are the minimum images of i - apex and k - apex; `image` is the minimum image in the cell
unfoldable pub angle_bend : (Vec3 → Image) → Angle → (per_angle xs : List Float) → ℕ → Corner → Option Bend
angle_bend image angle per xs r c =
    bend_of (angle_at per r angle) (displaced image xs (c.first, c.apex)) (displaced image xs (c.last, c.apex))

-- row r of a table of angles; one that names an atom not there adds nothing (refusal 4 leaves no such case: Source.antt)
unfoldable pub angle_step : (Vec3 → Image) → Angle → List ℕ → (per_angle xs : List Float) → Total → ℕ → Total
angle_step image angle angles per xs t r =
    let c = corner_at angles r in
    cond (is_missing (atoms_of xs) c) t (bent t c (angle_bend image angle per xs r c))

-- `compute_all`: from zero, row after row
unfoldable pub angles_over : Angle → Option Lattice → List ℕ → (per_angle xs : List Float) → ℕ → Total
angles_over angle cell angles per xs room =
    foldl (angle_step (λ d. image_of d cell) angle angles per xs) (zero_total room) (up_to (length angles / 3))
