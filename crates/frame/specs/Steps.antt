-- What the private functions ask and say of themselves: nobody has to believe it. Definitions only.
use Rattle.std.specs.Prelude.{ℕ, ◌/◌, ◌≤◌, ◌<◌, ◌≡◌, false, cond, List, length}
use Rattle.bins.specs.declared.Grid.{Grid}
use Rattle.bins.specs.declared.Cell.{Cell}
use Rattle.bins.specs.Stencil.{InGrid, flatten, cells}
use Rattle.bins.specs.Sort.{atoms_in}
use Rattle.bins.specs.Traversal.{bin}
use Rattle.bins.specs.declared.Tally.{Tally}
use Rattle.bins.specs.Listing.{Scene, list_of}
use Rattle.exclusions.specs.Table.{looked_up}
use Rattle.candidates.specs.Checks.{lazy}
use Rattle.frame.specs.declared.Frame.{Frame}
use Rattle.frame.specs.declared.Spot.{Spot}
use Rattle.bins.specs.declared.Plan.{Plan}
use Rattle.bins.specs.declared.Plan.TheVariants.{AllPairs, Laid, TooMany}
use Rattle.frame.specs.Distance.{spot_of, near_of}
use Rattle.frame.specs.Laying.{grid_of, cell_at, plain_of, crowded}

-- the frame's numbers are in range
pub record FrameSized (f : Frame) : Type 0 where
  pub x : f.x.edge ≤ 1048576
  pub y : f.y.edge ≤ 1048576
  pub z : f.z.edge ≤ 1048576
  pub radius : f.radius ≤ 1048576

-- the place is in the frame
pub record Inside (f : Frame) (a : Spot) : Type 0 where
  pub x : a.x < f.x.edge
  pub y : a.y < f.y.edge
  pub z : a.z < f.z.edge

-- and so is each atom
pub record Framed (f : Frame) (xs : List ℕ) : Type 0 where
  pub sized : FrameSized f
  pub inside : (i : ℕ) → i < length xs / 3 → Inside f (spot_of xs i)

-- all pairs, a grid, or too many cells
unfoldable pub plan_of : Frame → ℕ → Plan
plan_of f starts = cond (plain_of f) AllPairs (cond (crowded f starts) TooMany (Laid (grid_of f)))

-- the frame's own grid, small enough
pub record Gridded (f : Frame) (g : Grid) : Type 0 where
  pub is : g ≡ grid_of f
  pub wide : plain_of f ≡ false
  pub few : cells g ≤ 32768

-- what is excluded and what is near, by the lookup
unfoldable pub looked_by : Frame → List ℕ → List ℕ → Scene
looked_by f xs table = record { excluded = looked_up table; near = λ low high. near_of f (spot_of xs low) (spot_of xs high) }

-- the same as the loops find it: the near test first, and each candidate counted
abbrev pub scene_by : Frame → List ℕ → List ℕ → Scene
scene_by f xs table = lazy (looked_by f xs table)

-- from a tally t and a memory, the candidates lead to the tally r and the new memory
abbrev pub Lists : Frame → List ℕ → List ℕ → Tally → List ℕ → List (ℕ × ℕ) → Tally → List ℕ → Type 0
Lists f xs table t old cands r new = record { tally = r; mem = new } ≡ list_of (scene_by f xs table) (record { tally = t; mem = old }) cands

-- the atoms of a cell, rising
abbrev pub atoms_by : Frame → List ℕ → Cell → List ℕ
atoms_by f xs = bin (length xs / 3) (cell_at f xs)

-- the lent tables hand out the atoms of each cell
pub record Swept (f : Frame) (g : Grid) (xs starts items : List ℕ) : Type 0 where
  pub framed : Framed f xs
  pub part : (c : Cell) → InGrid g c → atoms_in (flatten g c) starts items ≡ atoms_by f xs c
