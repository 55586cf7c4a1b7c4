-- What each public call answers, and what it leaves in the lent forces: one relation a call (02, No. 1). Tests in 01's order, 1 to 4; a refusal leaves the forces as they came. Definitions only.
use Rattle.std.specs.Prelude.{Ok, Option, Result}
use Rattle.answer.specs.declared.Refusal.{Refusal}
use Rattle.cell.specs.declared.Lattice.{Lattice}
use Rattle.virial.specs.declared.Sum.{Sum}
use Rattle.std.specs.Prelude.{◌≡◌, Bool, ◌&&◌, List, ℕ, ◌/◌, ◌%◌, eqb, Float, length}
use Rattle.lists.specs.Atoms.{atoms_of}
use Rattle.lists.specs.Lists.{every}
use Rattle.answer.specs.Seen.{seen}
use Rattle.cell.specs.Calls.{when}
use Rattle.cell.specs.Ranged.{coordinate, cell_in_range}
use Rattle.potentials.specs.Calls.{asked_by, outcome_of, left}
use Rattle.potentials_angle.specs.declared.Angle.{Angle}
use Rattle.potentials_angle.specs.Ranged.{angle_in_range, per_angle_in_range}
use Rattle.potentials_angle.specs.Rows.{missing_of}
use Rattle.potentials_angle.specs.Terms.{angles_over}

abbrev pub angle_of : (k rest : Float) → Angle
angle_of k rest = record { k = k; rest = rest }

abbrev pub UniformAnglesSays : (k rest : Float) → Result Angle Refusal → Type 0
UniformAnglesSays k rest r = seen r ≡ when (angle_in_range (angle_of k rest)) (angle_of k rest)

-- 1: three floats an atom, three atoms a row, two floats a row of per_angle, forces as long as positions. The arguments are lengths
unfoldable pub angles_fit : (angles per_angle xs forces : ℕ) → Bool
angles_fit angles per xs forces = eqb (xs % 3) 0 && eqb (angles % 3) 0 && eqb (per % 2) 0 && eqb forces xs

-- 3
unfoldable pub angles_ranges : Angle → Option Lattice → (per_angle xs : List Float) → Bool
angles_ranges angle cell per xs = angle_in_range angle && cell_in_range cell && per_angle_in_range per && every coordinate xs

-- 1, 2, 3, 4; angles and forces are lengths, missing is the first bad row of the angles; no table is in order, so no 5
unfoldable pub angles_asked : Angle → Option Lattice → (angles : ℕ) (per_angle xs : List Float) (forces missing : ℕ) → Result (Unit {0}) Refusal
angles_asked angle cell angles per xs forces missing =
    asked_by (angles_fit angles (length per) (length xs) forces) (atoms_of xs) (angles_ranges angle cell per xs) (angles / 3) missing (Ok tt)

abbrev pub AnglesAllSays : (angle : Angle) (cell : Option Lattice) (angles : List ℕ) (per_angle positions forces : List Float) → Result Sum Refusal → (after : List Float) → Type 0
AnglesAllSays angle cell angles per xs forces r after =
    left r after
    ≡ outcome_of (angles_asked angle cell (length angles) per xs (length forces) (missing_of (atoms_of xs) angles)) (angles_over angle cell angles per xs (length forces)) forces
