-- What is measured once gives the grid, the plan and each atom's cell as the definitions have them. Assumes nothing.
use Rattle.std.specs.Prelude.{None, Option, Some}
use Rattle.cell.specs.declared.Lattice.{Lattice}
use Prim.Native.Nat.{ℕ}
use mathlib.Core.Path.{◌≡◌, refl}
use mathlib.Core.Bool.{Bool, true, false, cond, ◌||◌}
use mathlib.Core.List.{List}
use lib.Ieee.{Float, le}
use Rattle.cell.specs.Vec.{position_at}
use Rattle.float.specs.Arith.{bits}
use Rattle.cell.specs.declared.Vec3.{Vec3}
use Rattle.cell.specs.Matrix.{times_of}
use Rattle.bins.specs.declared.Grid.{Grid}
use Rattle.bins.specs.declared.Plan.TheVariants.{AllPairs, TooMany, Laid}
use Rattle.neighbor_grid.specs.Grid.{grid_of, cell_in, cell_at, no_inverse, plain_by, plain_of, crowded, relative_of}
use Rattle.neighbor_grid.specs.Steps.{ruler_of, fraction_by, measure_of, grid_in, plan_sizes, plan_of, cell_by}

pub ruler_is : (cell : Option Lattice) (xs : List Float) → (measure_of cell xs).ruler ≡ ruler_of cell xs
unfolding measure_of
ruler_is None xs = refl
ruler_is (Some l) xs = refl

pub fraction_is : (cell : Option Lattice) (xs : List Float) (p : Vec3) → fraction_by (ruler_of cell xs) p ≡ relative_of cell xs p
unfolding ruler_of fraction_by relative_of times_of
fraction_is None xs p = refl
fraction_is (Some l) xs p = refl

pub grid_is : (cell : Option Lattice) (r : Float) (xs : List Float) → grid_in (measure_of cell xs) r ≡ grid_of cell r xs
unfolding measure_of grid_of
grid_is None r xs = refl
grid_is (Some l) r xs = refl

singular_is : (cell : Option Lattice) (xs : List Float) → (measure_of cell xs).singular ≡ no_inverse cell
unfolding measure_of no_inverse
singular_is None xs = refl
singular_is (Some l) xs = refl

either : {A : Type 0} (s t : Bool) (a b : A) → cond s a (cond t a b) ≡ cond (s || t) a b
either true t a b = refl
either false t a b = refl

module _ (cell : Option Lattice) (r : Float) (xs : List Float) where
  pub plan_is : (starts : ℕ) → plan_of (measure_of cell xs) r starts ≡ cond (plain_of cell r xs) AllPairs (cond (crowded cell r xs starts) TooMany (Laid (grid_of cell r xs)))
  unfolding plan_of plan_sizes plain_of
  plan_is starts =
      rw (grid_is cell r xs, singular_is cell xs)
      (either (le r (bits 0) || no_inverse cell) (plain_by (grid_of cell r xs)) AllPairs (cond (crowded cell r xs starts) TooMany (Laid (grid_of cell r xs))))

  pub cells_are : {g : Grid} → g ≡ grid_of cell r xs → cell_by (measure_of cell xs).ruler g xs ≡ cell_at cell r xs
  cells_are e = rw (e, ruler_is cell xs) (λ i k. cell_in (grid_of cell r xs) (fraction_is cell xs (position_at xs k) i))
