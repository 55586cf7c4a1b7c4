-- The evaluator's terms (01, "Forces and steps": "each present result is merged in that order into zero"): what each gives, and the fold of that. Definitions only.
use Rattle.std.specs.Prelude.{None, Option, Some}
use Rattle.cell.specs.declared.Lattice.{Lattice}
use Rattle.potentials.specs.declared.Bond.{Bond}
use Rattle.potentials.specs.declared.coulomb.Coulomb.{Coulomb}
use Rattle.potentials_angle.specs.declared.Angle.{Angle}
use mathlib.Core.List.{List, [], ◌∷◌, ◌++◌, foldl}
use Rattle.std.specs.Prelude.{ℕ, Float}
use Rattle.virial.specs.declared.Units.{Units}
use Rattle.virial.specs.Virial.{merged_sum, merged_forces}
use Rattle.potentials_pair.specs.declared.Lj.{Lj}
use Rattle.potentials_pair.specs.declared.Mixed.{Mixed}
use Rattle.potentials_pair.specs.Pull.{Total}
use Rattle.potentials_pair.specs.Species.{Tables, tables_of}
use Rattle.potentials_angle.specs.Terms.{angles_over}
use Rattle.potentials.specs.Terms.{zero_total, lj_over, coulomb_over, bonds_over}
use Rattle.evaluate.specs.declared.Molecule.{Molecule}
use Rattle.evaluate.specs.declared.Setting.{Setting}

-- the terms, "either absent or present with its numbers", and the tables that they read; `lengths` is the Rust's per_bond, `ks` its per_bond_k
pub record Terms : Type 0 where
  pub lj : Option Lj
  pub coulomb : Option Coulomb
  pub bond : Option Bond
  pub angle : Option Angle
  pub units : Units
  pub tables : Tables
  pub species : List ℕ
  pub charges : List Float
  pub bonds : List ℕ
  pub lengths : List Float
  pub ks : List Float
  pub angles : List ℕ
  pub per_angle : List Float

-- those of a setting, with their tables
abbrev pub terms : Setting → (tab : Tables) → (species : List ℕ) → (charges : List Float) → (bonds : List ℕ) → (lengths ks : List Float) → (angles : List ℕ) → (per_angle : List Float) → Terms
terms setting tab species charges bonds lengths ks angles per_angle =
    record {
      lj = setting.lj;
      coulomb = setting.coulomb;
      bond = setting.bond;
      angle = setting.angle;
      units = setting.units;
      tables = tab;
      species = species;
      charges = charges;
      bonds = bonds;
      lengths = lengths;
      ks = ks;
      angles = angles;
      per_angle = per_angle;
    }

-- .. with a molecule's
abbrev pub terms_of : Setting → Molecule → Terms
terms_of setting m =
    terms setting (tables_of m.tables) m.species.now m.charges.now m.bonds.ends.now m.bonds.lengths.now m.bonds.ks.now m.angles.corners.now m.angles.per_angle.now

-- ---- what a term gives over pairs l: one contribution from zero, with so many floats, where it is present; none where it is absent

-- `look` gives a species' epsilon and sigma
unfoldable pub lj_gives : (look : Lj → ℕ → Mixed) → Option Lj → Option Lattice → (species : List ℕ) → (xs : List Float) → (room : ℕ) → List (ℕ × ℕ) → List Total
lj_gives look None cell species xs room l = []
lj_gives look (Some lj) cell species xs room l = lj_over (look lj) lj cell species xs room l ∷ []

unfoldable pub coulomb_gives : Option Coulomb → (ke : Float) → Option Lattice → (charges xs : List Float) → (room : ℕ) → List (ℕ × ℕ) → List Total
coulomb_gives None ke cell charges xs room l = []
coulomb_gives (Some coulomb) ke cell charges xs room l = coulomb_over ke coulomb.cutoff cell charges xs room l ∷ []

unfoldable pub bond_gives : Option Bond → Option Lattice → (bonds : List ℕ) → (lengths ks xs : List Float) → (room : ℕ) → List Total
bond_gives None cell bonds lengths ks xs room = []
bond_gives (Some bond) cell bonds lengths ks xs room = bonds_over bond cell bonds lengths ks xs room ∷ []

unfoldable pub angle_gives : Option Angle → Option Lattice → (angles : List ℕ) → (per_angle xs : List Float) → (room : ℕ) → List Total
angle_gives None cell angles per_angle xs room = []
angle_gives (Some angle) cell angles per_angle xs room = angles_over angle cell angles per_angle xs room ∷ []

-- "The evaluator (added) runs Lennard-Jones, Coulomb, bonds"; 02, No. 1: angles "after bonds"
unfoldable pub contributions : (look : Tables → Lj → ℕ → Mixed) → Terms → Option Lattice → (xs : List Float) → (room : ℕ) → List (ℕ × ℕ) → List Total
contributions look t cell xs room l =
    lj_gives (look t.tables) t.lj cell t.species xs room l
    ++ (coulomb_gives t.coulomb t.units.ke_coulomb cell t.charges xs room l
    ++ (bond_gives t.bond cell t.bonds t.lengths t.ks xs room
    ++ angle_gives t.angle cell t.angles t.per_angle xs room))

-- ---- merged in that order into zero

-- virial.rs, `merge`, lines 47 to 60
unfoldable pub merged : Total → Total → Total
merged t u = record { sum = merged_sum t.sum u.sum; forces = merged_forces t.forces u.forces }

-- each contribution of a list, in its order
unfoldable pub merged_into : Total → List Total → Total
merged_into t l = foldl merged t l

unfoldable pub merged_all : ℕ → List Total → Total
merged_all room l = merged_into (zero_total room) l
