-- The cell matrix, its determinant and its inverse (cell.rs 47-92 and, the same formulas again, 224-261), in the source's order. Definitions only.
use Rattle.std.specs.Prelude.{Float, List, [], ◌∷◌, Bool}
use Rattle.std.specs.Float.Ieee.{le}
use Rattle.float.specs.Literals.{tiny}
use Rattle.float.specs.Arith.{◌⊕◌, ◌⊖◌, ◌⊗◌, ◌⊘◌, bits, at, row, entry}
use Rattle.float.specs.Def.{abs_of, max_of}
use Rattle.cell.specs.Vec.{minor_of}
use Rattle.cell.specs.declared.Vec3.{Vec3}
use Rattle.cell.specs.declared.Lattice.{Lattice}

-- three rows of three floats
abbrev pub Matrix : Type 0
Matrix = List (List Float)

-- `matrix` (47-53): the lattice vectors as columns
unfoldable pub matrix_of : Lattice → Matrix
matrix_of l =
    (l.a.x ∷ l.b.x ∷ l.c.x ∷ []) ∷
    (l.a.y ∷ l.b.y ∷ l.c.y ∷ []) ∷
    (l.a.z ∷ l.b.z ∷ l.c.z ∷ []) ∷ []

-- the formula of `volume` (58-60)
unfoldable pub det_of : Matrix → Float
det_of h =
    entry h 0 0 ⊗ (entry h 1 1 ⊗ entry h 2 2 ⊖ entry h 1 2 ⊗ entry h 2 1)
    ⊖ entry h 0 1 ⊗ (entry h 1 0 ⊗ entry h 2 2 ⊖ entry h 1 2 ⊗ entry h 2 0)
    ⊕ entry h 0 2 ⊗ (entry h 1 0 ⊗ entry h 2 1 ⊖ entry h 1 1 ⊗ entry h 2 0)

-- `volume` (56-61): signed
unfoldable pub volume_of : Lattice → Float
volume_of l = det_of (matrix_of l)

-- the rows of `inverse` (76-92): the adjugate, each entry times id
unfoldable pub adjugate_of : Matrix → Float → Matrix
adjugate_of h id =
    (minor_of (entry h 1 1) (entry h 2 2) (entry h 1 2) (entry h 2 1) ⊗ id
    ∷ minor_of (entry h 0 2) (entry h 2 1) (entry h 0 1) (entry h 2 2) ⊗ id
    ∷ minor_of (entry h 0 1) (entry h 1 2) (entry h 0 2) (entry h 1 1) ⊗ id ∷ []) ∷
    (minor_of (entry h 1 2) (entry h 2 0) (entry h 1 0) (entry h 2 2) ⊗ id
    ∷ minor_of (entry h 0 0) (entry h 2 2) (entry h 0 2) (entry h 2 0) ⊗ id
    ∷ minor_of (entry h 0 2) (entry h 1 0) (entry h 0 0) (entry h 1 2) ⊗ id ∷ []) ∷
    (minor_of (entry h 1 0) (entry h 2 1) (entry h 1 1) (entry h 2 0) ⊗ id
    ∷ minor_of (entry h 0 1) (entry h 2 0) (entry h 0 0) (entry h 2 1) ⊗ id
    ∷ minor_of (entry h 0 0) (entry h 1 1) (entry h 0 1) (entry h 1 0) ⊗ id ∷ []) ∷ []

-- the fold of `inverse` (68-71): the largest magnitude, from 0, row by row
unfoldable pub larger_of : Float → Float → Float
larger_of m v = max_of m (abs_of v)

unfoldable pub largest_in_row : Float → Float → Float → Float → Float
largest_in_row m x y z = larger_of (larger_of (larger_of m x) y) z

unfoldable pub largest_of : Matrix → Float
largest_of h =
    largest_in_row
    (largest_in_row (largest_in_row (bits 0) (entry h 0 0) (entry h 0 1) (entry h 0 2)) (entry h 1 0) (entry h 1 1) (entry h 1 2))
    (entry h 2 0)
    (entry h 2 1)
    (entry h 2 2)

-- |det| <= 1e-12 * scale * scale * scale (72; 01, "Cell rules": "No inverse when ..")
abbrev pub too_small : Float → Float → Bool
too_small det scale = le (abs_of det) (tiny ⊗ scale ⊗ scale ⊗ scale)

unfoldable pub singular_of : Lattice → Bool
singular_of l = too_small (volume_of l) (largest_of (matrix_of l))

-- `inverse` (75-92) where the cell is not singular
unfoldable pub inverse_of : Lattice → Matrix
inverse_of l = adjugate_of (matrix_of l) (bits 0x3ff0_0000_0000_0000 ⊘ volume_of l)

-- `mat_vec` (166-172)
abbrev pub times_row : List Float → Vec3 → Float
times_row r v = at r 0 ⊗ v.x ⊕ at r 1 ⊗ v.y ⊕ at r 2 ⊗ v.z

unfoldable pub times_of : Matrix → Vec3 → Vec3
times_of m v = record { x = times_row (row m 0) v; y = times_row (row m 1) v; z = times_row (row m 2) v }
