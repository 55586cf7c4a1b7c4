-- What the private functions ask and say of themselves: nobody has to believe it. Definitions only.
use Rattle.std.specs.Prelude.{None, Option, Some}
use Rattle.cell.specs.declared.Lattice.{Lattice}
use Rattle.std.specs.Prelude.{ℕ, ◌≤◌, List, false, cond, ◌||◌, Float, pos}
use Rattle.std.specs.Float.{binary64}
use Rattle.std.specs.Float.Ieee.{le, of_int}
use Rattle.float.specs.Arith.{bits, row}
use Rattle.cell.specs.declared.Vec3.{Vec3}
use Rattle.cell.specs.Vec.{dot_of, position_at}
use Rattle.cell.specs.Matrix.{singular_of, inverse_of}
use Rattle.cell.specs.Cell.{perp_widths_of}
use Rattle.cell.specs.General.{row_vec}
use Rattle.bins.specs.declared.Grid.{Grid}
use Rattle.bins.specs.declared.Cell.{Cell as Home}
use Rattle.bins.specs.Stencil.{cells, flatten}
use Rattle.neighbor_grid.specs.declared.measuring.Bounds.{Bounds}
use Rattle.neighbor_grid.specs.declared.measuring.Ruler.{Ruler}
use Rattle.neighbor_grid.specs.declared.measuring.Ruler.TheVariants.{Folded, Boxed}
use Rattle.neighbor_grid.specs.declared.measuring.Measure.{Measure}
use Rattle.bins.specs.declared.Plan.{Plan}
use Rattle.bins.specs.declared.Plan.TheVariants.{AllPairs, TooMany, Laid}
use Rattle.neighbor_grid.specs.Grid.{low_of, high_of, extent_of, slight, grid_by, folded_of, boxed_of, cell_in, plain_by, crowded_by}

abbrev pub bounds_of : List Float → Bounds
bounds_of xs = record { lo = low_of xs; hi = high_of xs }

-- what an atom's fractions are computed from, asked once
unfoldable pub ruler_of : Option Lattice → List Float → Ruler
ruler_of None xs = Boxed (low_of xs) (extent_of slight xs)
ruler_of (Some l) xs = Folded (row_vec (row (inverse_of l) 0)) (row_vec (row (inverse_of l) 1)) (row_vec (row (inverse_of l) 2))

unfoldable pub fraction_by : Ruler → Vec3 → Vec3
fraction_by (Boxed lo extent) p = boxed_of lo extent p
fraction_by (Folded x y z) p = folded_of (record { x = dot_of x p; y = dot_of y p; z = dot_of z p })

-- what is asked of a cell and of the atoms, once
unfoldable pub measure_of : Option Lattice → List Float → Measure
measure_of None xs =
    record { singular = false; widths = extent_of (bits 0) xs; px = false; py = false; pz = false; ruler = ruler_of None xs }
measure_of (Some l) xs =
    record { singular = singular_of l; widths = perp_widths_of l; px = l.px; py = l.py; pz = l.pz; ruler = ruler_of (Some l) xs }

-- the grid of three numbers of bins
abbrev pub sized : Measure → ℕ → ℕ → ℕ → Grid
sized m nx ny nz = record { x = record { size = nx; round = m.px }; y = record { size = ny; round = m.py }; z = record { size = nz; round = m.pz } }

abbrev pub grid_in : Measure → Float → Grid
grid_in m r = grid_by m.widths m.px m.py m.pz r

unfoldable pub plan_sizes : Grid → ℕ → Plan
plan_sizes g starts = cond (plain_by g) AllPairs (cond (crowded_by g starts) TooMany (Laid g))

unfoldable pub plan_of : Measure → Float → ℕ → Plan
plan_of m r starts = cond (le r (bits 0) || m.singular) AllPairs (plan_sizes (grid_in m r) starts)

-- a bin on each axis
pub record Wide (g : Grid) : Type 0 where
  pub x : 1 ≤ g.x.size
  pub y : 1 ≤ g.y.size
  pub z : 1 ≤ g.z.size

-- a grid that a plan has laid
pub record Small (g : Grid) : Type 0 where
  pub some : Wide g
  pub few : cells g ≤ 32768

-- its sizes as floats, asked once
abbrev pub sizes_of : Grid → Vec3
sizes_of g = record { x = of_int binary64 (pos g.x.size); y = of_int binary64 (pos g.y.size); z = of_int binary64 (pos g.z.size) }

abbrev pub cell_by : Ruler → Grid → List Float → ℕ → Home
cell_by ruler g xs i = cell_in g (fraction_by ruler (position_at xs i))

abbrev pub place_by : Ruler → Grid → List Float → ℕ → ℕ
place_by ruler g xs i = flatten g (cell_by ruler g xs i)
