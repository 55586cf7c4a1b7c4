-- What the functions that close up several tables say of themselves. Nobody has to believe it.
use Rattle.std.specs.Prelude.{ℕ, ◌≡◌, List, Float, length}
use Rattle.strike.specs.declared.Left as Left
use Rattle.strike.specs.declared.ThreeLeft.{ThreeLeft}
use Rattle.strike.specs.Closed.{new_number}
use Rattle.strike.specs.Calls.{LentAtoms, Links, atoms_left, links_left, left_of, names_left, beside_left, names_many, beside_many}

pub record AtomsClosed (marks : List ℕ) (a : LentAtoms) (r : ℕ) (after : LentAtoms) : Type 0 where
  pub held : after ≡ atoms_left marks a
  pub count : r ≡ new_number marks (length marks)

pub record BondsClosed (marks bonds : List ℕ) (lengths ks : List Float) (r : ThreeLeft) (bonds' : List ℕ) (lengths' ks' : List Float) : Type 0 where
  pub bonds_held : bonds' ≡ names_left marks 2 bonds
  pub lengths_held : lengths' ≡ beside_left marks 2 bonds 1 lengths
  pub ks_held : ks' ≡ beside_left marks 2 bonds 1 ks
  pub bonds_many : r.names ≡ names_many marks 2 bonds
  pub lengths_many : r.first ≡ beside_many marks 2 bonds 1 lengths
  pub ks_many : r.second ≡ beside_many marks 2 bonds 1 ks

pub record AnglesClosed (marks angles : List ℕ) (per : List Float) (r : ThreeLeft) (angles' : List ℕ) (per' : List Float) : Type 0 where
  pub angles_held : angles' ≡ names_left marks 3 angles
  pub per_held : per' ≡ beside_left marks 3 angles 2 per
  pub angles_many : r.names ≡ names_many marks 3 angles
  pub per_many : r.first ≡ beside_many marks 3 angles 2 per

pub record LinksClosed (marks : List ℕ) (n : ℕ) (l : Links) (r : Left.Left) (after : Links) : Type 0 where
  pub held : after ≡ links_left marks l
  pub count : r ≡ left_of n marks l
