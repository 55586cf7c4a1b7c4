-- What the term is after passed tests: the Rust's own loop, with no row passed over and every row's own numbers or the default. proofs/Source.antt proves it of every input. Definitions only.
use Rattle.std.specs.Prelude.{Ok, Option}
use Rattle.cell.specs.declared.Lattice.{Lattice}
use Rattle.std.specs.Prelude.{◌≡◌, ℕ, ◌/◌, Float, length}
use mathlib.Core.List.{List, foldl}
use Rattle.lists.specs.Atoms.{atoms_of}
use Rattle.lists.specs.Lists.{up_to}
use Rattle.cell.specs.Cell.{image_of}
use Rattle.potentials.specs.Terms.{zero_total}
use Rattle.potentials_angle.specs.declared.Angle.{Angle}
use Rattle.potentials_angle.specs.Bend.{bent}
use Rattle.potentials_angle.specs.Rows.{corner_at, missing_of}
use Rattle.potentials_angle.specs.Terms.{angle_bend, angles_over}
use Rattle.potentials_angle.specs.Calls.{angles_asked}

-- lines 312 to 359: row r of the angles, r rising
abbrev pub AnglesAllBySource : (angle : Angle) (cell : Option Lattice) (angles : List ℕ) (per_angle positions forces : List Float) → Type 0
AnglesAllBySource angle cell angles per xs forces =
    angles_asked angle cell (length angles) per xs (length forces) (missing_of (atoms_of xs) angles) ≡ Ok tt
    → angles_over angle cell angles per xs (length forces)
    ≡ foldl (λ t r. bent t (corner_at angles r) (angle_bend (λ d. image_of d cell) angle per xs r (corner_at angles r))) (zero_total (length forces)) (up_to (length angles / 3))
