-- The grid that a frame's atoms are laid into, or that none is: 01, "Whole-number frame" and "Pair list rules". Definitions only.
use Rattle.std.specs.Prelude.{ℕ, ◌/◌, List, Bool, ◌&&◌, ◌||◌, eqb, ltb, leb}
use Rattle.bins.specs.declared.Grid.{Grid}
use Rattle.bins.specs.declared.Cell.{Cell}
use Rattle.bins.specs.Edge.{bins_on, bin_on, axis_on}
use Rattle.bins.specs.Stencil.{cells, flatten}
use Rattle.frame.specs.declared.Side.{Side}
use Rattle.frame.specs.declared.Frame.{Frame}
use Rattle.frame.specs.declared.Spot.{Spot}
use Rattle.frame.specs.Distance.{spot_of}

-- "Bins on an axis: floor(edge/radius), at least 1"
unfoldable pub grid_of : Frame → Grid
grid_of f =
    record {
      x = axis_on f.x.round f.x.edge f.radius;
      y = axis_on f.y.round f.y.edge f.radius;
      z = axis_on f.z.round f.z.edge f.radius;
    }

-- "bin = floor(coordinate × bins / edge)"
abbrev pub bin_in : Side → ℕ → ℕ → ℕ
bin_in e radius c = bin_on e.edge (bins_on e.edge radius) c

unfoldable pub cell_of_spot : Frame → Spot → Cell
cell_of_spot f a = record { x = bin_in f.x f.radius a.x; y = bin_in f.y f.radius a.y; z = bin_in f.z f.radius a.z }

-- the cell of an atom, and its place in the tables
abbrev pub cell_at : Frame → List ℕ → ℕ → Cell
cell_at f xs i = cell_of_spot f (spot_of xs i)

abbrev pub home_at : Frame → List ℕ → ℕ → ℕ
home_at f xs i = flatten (grid_of f) (cell_at f xs i)

-- "any periodic axis has floor(width/radius) below 3"
unfoldable pub narrow : Side → ℕ → Bool
narrow e radius = e.round && ltb (e.edge / radius) 3

-- No grid is laid: radius 0, a periodic axis too narrow, "or there are fewer than 8 cells".
unfoldable pub plain_of : Frame → Bool
plain_of f =
    eqb f.radius 0
    || narrow f.x f.radius
    || narrow f.y f.radius
    || narrow f.z f.radius
    || ltb (cells (grid_of f)) 8

-- Refusal 7: the grid "needs over 32,768 cells, or more than lent starts less one".
unfoldable pub crowded : Frame → ℕ → Bool
crowded f starts = ltb 32768 (cells (grid_of f)) || leb starts (cells (grid_of f))
