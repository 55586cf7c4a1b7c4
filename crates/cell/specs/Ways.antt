-- Where `is_orthorhombic` and the way of `min_image` part: 01, "Cell rules", "at exactly 1e-9 they differ". proofs/Ways.antt shows `Ways l` of every upright lattice in range.
use Rattle.std.specs.Prelude.{◌≡◌, true, false}
use Rattle.std.specs.Float.Ieee.{lt, eq}
use Rattle.float.specs.Arith.{bits}
use Rattle.cell.specs.Cell.{off_diagonal_of, is_orthorhombic_of, skewed_of, nano}
use Rattle.cell.specs.declared.Lattice.{Lattice}

-- each diagonal entry is above 0
pub record Upright (l : Lattice) : Type 0 where
  pub x : lt (bits 0) l.a.x ≡ true
  pub y : lt (bits 0) l.b.y ≡ true
  pub z : lt (bits 0) l.c.z ≡ true

-- The sum of the six magnitudes against 1e-9: below it both say box, at it only `min_image` does, above it neither; and nowhere else do they differ.
pub record Ways (l : Lattice) : Type 0 where
  pub below : lt (off_diagonal_of l) nano ≡ true → (is_orthorhombic_of l ≡ true) × (skewed_of l ≡ false)
  pub exactly : eq (off_diagonal_of l) nano ≡ true → (is_orthorhombic_of l ≡ false) × (skewed_of l ≡ false)
  pub above : lt nano (off_diagonal_of l) ≡ true → (is_orthorhombic_of l ≡ false) × (skewed_of l ≡ true)
  pub only_there : is_orthorhombic_of l ≡ skewed_of l → eq (off_diagonal_of l) nano ≡ true
