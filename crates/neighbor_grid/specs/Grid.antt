-- The grid of a float frame and each atom's cell in it: neighbor.rs, `Grid::build` (276-337) and `index`, in the source's order, on every float. Definitions only.
use Rattle.std.specs.Prelude.{None, Option, Some}
use Rattle.cell.specs.declared.Lattice.{Lattice}
use Rattle.std.specs.Prelude.{ℕ, ◌-◌, min, max, List, Bool, true, false, ◌&&◌, ◌||◌, ltb, leb, ℤ, pos, negsuc, Float}
use Rattle.std.specs.Float.{inf, binary64}
use Rattle.std.specs.Float.Ieee.{le, of_int, to_signed, to_unsigned}
use Rattle.lists.specs.Atoms.{atoms_of}
use Rattle.float.specs.Arith.{◌⊖◌, ◌⊗◌, ◌⊘◌, bits}
use Rattle.float.specs.Def.{min_of, max_of, clamp_of, rem_euclid_of, floor_of}
use Rattle.lists.specs.Loops.{fold_up_to}
use Rattle.cell.specs.declared.Vec3.{Vec3}
use Rattle.cell.specs.Vec.{sub_of, position_at}
use Rattle.cell.specs.Matrix.{singular_of, inverse_of, times_of}
use Rattle.cell.specs.Cell.{one, perp_widths_of}
use Rattle.bins.specs.declared.Axis.{Axis}
use Rattle.bins.specs.declared.Grid.{Grid}
use Rattle.bins.specs.declared.Cell.{Cell as Home}
use Rattle.bins.specs.Stencil.{cells, flatten}

-- ---- the atoms' bounding box, where there is no cell (312-319)
abbrev pub lower_of : Vec3 → Vec3 → Vec3
lower_of a b = record { x = min_of a.x b.x; y = min_of a.y b.y; z = min_of a.z b.z }

abbrev pub upper_of : Vec3 → Vec3 → Vec3
upper_of a b = record { x = max_of a.x b.x; y = max_of a.y b.y; z = max_of a.z b.z }

abbrev pub alike : Float → Vec3
alike f = record { x = f; y = f; z = f }

unfoldable pub low_of : List Float → Vec3
low_of xs = fold_up_to (λ i lo. lower_of lo (position_at xs i)) (atoms_of xs) (alike (inf false))

unfoldable pub high_of : List Float → Vec3
high_of xs = fold_up_to (λ i hi. upper_of hi (position_at xs i)) (atoms_of xs) (alike (inf true))

-- `(hi[k] - lo[k]).max(least)`: for the numbers of bins 0 is least (322), for the bins 1e-30 (329)
unfoldable pub extent_of : Float → List Float → Vec3
extent_of least xs = upper_of (sub_of (high_of xs) (low_of xs)) (alike least)

-- 1e-30
abbrev pub slight : Float
slight = bits 0x39b4_484b_feeb_c2a0

-- ---- the numbers of bins
-- `(width / r_search).floor() as i64` (287, 323)
unfoldable pub bins_in : Float → Float → ℤ
bins_in width r = to_signed 63 (floor_of (width ⊘ r))

-- `d.max(1) as usize` (293, 323)
unfoldable pub size_of : ℤ → ℕ
size_of (pos n) = max n 1
size_of (negsuc n) = 1

abbrev pub grid_axis_of : Bool → Float → Float → Axis
grid_axis_of round width r = record { size = size_of (bins_in width r); round = round }

unfoldable pub grid_by : Vec3 → Bool → Bool → Bool → Float → Grid
grid_by w px py pz r = record { x = grid_axis_of px w.x r; y = grid_axis_of py w.y r; z = grid_axis_of pz w.z r }

-- The sizes are any whole numbers here (an infinite width's is the end of i64), and so is their product.
unfoldable pub grid_of : Option Lattice → Float → List Float → Grid
grid_of None r xs = grid_by (extent_of (bits 0) xs) false false false r
grid_of (Some l) r xs = grid_by (perp_widths_of l) l.px l.py l.pz r

-- ---- an atom's cell
-- the position as a fraction of each axis: folded by the cell's inverse (297-304), or in the bounding box (329-330)
unfoldable pub folded_of : Vec3 → Vec3
folded_of s = record { x = rem_euclid_of s.x one; y = rem_euclid_of s.y one; z = rem_euclid_of s.z one }

abbrev pub inside_of : Float → Float → Float → Float
inside_of lo extent p = clamp_of ((p ⊖ lo) ⊘ extent) (bits 0) one

unfoldable pub boxed_of : Vec3 → Vec3 → Vec3 → Vec3
boxed_of lo extent p =
    record { x = inside_of lo.x extent.x p.x; y = inside_of lo.y extent.y p.y; z = inside_of lo.z extent.z p.z }

unfoldable pub relative_of : Option Lattice → List Float → Vec3 → Vec3
relative_of None xs p = boxed_of (low_of xs) (extent_of slight xs) p
relative_of (Some l) xs p = folded_of (times_of (inverse_of l) p)

-- `((f * dims[k] as f64) as usize).min(dims[k] - 1)` (305, 331): a fraction of 1 lies in the last bin
unfoldable pub bin_of : ℕ → Float → ℕ
bin_of size f = min (to_unsigned 64 (f ⊗ of_int binary64 (pos size))) (size - 1)

unfoldable pub cell_in : Grid → Vec3 → Home
cell_in g f = record { x = bin_of g.x.size f.x; y = bin_of g.y.size f.y; z = bin_of g.z.size f.z }

-- the cell of an atom, and its place in the tables (350)
abbrev pub cell_at : Option Lattice → Float → List Float → ℕ → Home
cell_at cell r xs i = cell_in (grid_of cell r xs) (relative_of cell xs (position_at xs i))

abbrev pub home_at : Option Lattice → Float → List Float → ℕ → ℕ
home_at cell r xs i = flatten (grid_of cell r xs) (cell_at cell r xs i)

-- ---- whether a grid is laid
-- 01, "any periodic axis has floor(width/radius) below 3" (290): the size, which is at least 1, is below 3 exactly where that is
unfoldable pub narrow : Axis → Bool
narrow a = a.round && ltb a.size 3

unfoldable pub no_inverse : Option Lattice → Bool
no_inverse None = false
no_inverse (Some l) = singular_of l

-- 01: "all pairs when radius <= 0, the cell has no inverse, any periodic axis has floor(width/radius) below 3, or there are fewer than 8 cells"
-- (277, 283, 290, 342). The number of cells is exact; the Rust's product wraps.
unfoldable pub plain_by : Grid → Bool
plain_by g = narrow g.x || narrow g.y || narrow g.z || ltb (cells g) 8

unfoldable pub plain_of : Option Lattice → Float → List Float → Bool
plain_of cell r xs = le r (bits 0) || no_inverse cell || plain_by (grid_of cell r xs)

-- refusal 7: the grid "needs over 32,768 cells, or more than lent starts less one"
unfoldable pub crowded_by : Grid → ℕ → Bool
crowded_by g starts = ltb 32768 (cells g) || leb starts (cells g)

abbrev pub crowded : Option Lattice → Float → List Float → ℕ → Bool
crowded cell r xs starts = crowded_by (grid_of cell r xs) starts
