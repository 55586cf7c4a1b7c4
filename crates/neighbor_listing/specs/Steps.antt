-- What the private functions ask and say of themselves: nobody has to believe it. Definitions only.
use Rattle.std.specs.Prelude.{Option}
use Rattle.cell.specs.declared.Lattice.{Lattice}
use Rattle.std.specs.Prelude.{ℕ, ◌/◌, ◌≤◌, ◌<◌, min, max, ◌≡◌, Bool, true, false, cond, ◌&&◌, List, ltb, eqb, length, get_or, take, Float}
use Rattle.lists.specs.Atoms.{atoms_of}
use Rattle.lists.specs.Lists.{keep}
use Rattle.std.specs.Float.Ieee.{le}
use Rattle.cell.specs.declared.Vec3.{Vec3}
use Rattle.cell.specs.Vec.{sub_of, norm2_of, position_at}
use Rattle.float.specs.Arith.{◌⊗◌}
use Rattle.cell_prepared.specs.Facts.{prepare_of, image_in}
use Rattle.bins.specs.declared.Cell.{Cell}
use Rattle.bins.specs.declared.Grid.{Grid}
use Rattle.bins.specs.declared.Tally.{Tally}
use Rattle.bins.specs.Stencil.{InGrid, flatten}
use Rattle.bins.specs.Sort.{atoms_in}
use Rattle.bins.specs.Traversal.{bin}
use Rattle.bins.specs.Listing.{Scene, list_of, Below}
use Rattle.candidates.specs.Checks.{lazy}
use Rattle.exclusions.specs.Table.{row_at, looked_up}
use Rattle.neighbor_grid.specs.Grid.{grid_of, cell_at, plain_of}
use Rattle.neighbor_grid.specs.Layout.{touching_rows}
use Rattle.neighbor_listing.specs.declared.loops.Tried.{Tried}
use Rattle.neighbor_listing.specs.declared.sight.Sight.{Sight}

-- whether a low atom at a and a high one at b are near
unfoldable pub sees_of : Sight → Vec3 → Vec3 → Bool
sees_of s a b = le (norm2_of (image_in s.prepared (sub_of a b)).diff) s.limit

-- one of the first k rows is low, high
pub record NamedBelow (table : List ℕ) (k low high : ℕ) : Type 0 where
  pub place : ℕ
  pub within : place < k
  pub low_is : (row_at table place).0 ≡ low
  pub high_is : (row_at table place).1 ≡ high

-- each low atom's highest partner in the table, or 0
pub record Tops (table tops : List ℕ) : Type 0 where
  pub at : (k : ℕ) → k < length table / 2 → (row_at table k).0 < length tops → (row_at table k).1 ≤ get_or tops (row_at table k).0 0
  pub named : (a : ℕ) → a < length tops → 0 < get_or tops a 0 → NamedBelow table (length table / 2) a (get_or tops a 0)

-- a room of zeros, for the most atoms
pub record Cleared (room : List ℕ) : Type 0 where
  pub zero : (k : ℕ) → k < length room → get_or room k 0 ≡ 0

pub record BlankTops (room : List ℕ) : Type 0 where
  pub long : length room ≡ 16384
  pub clear : Cleared room

-- past it no pair is a row
unfoldable pub clear_of : List ℕ → ℕ → ℕ → Bool
clear_of tops low high = ltb low (length tops) && ltb (get_or tops low 0) high

-- .. and that partner is one
unfoldable pub top_of : List ℕ → ℕ → ℕ → Bool
top_of tops low high = ltb low (length tops) && (eqb (get_or tops low 0) high && ltb 0 high)

-- a pair's lookup
unfoldable pub looked_in : List ℕ → List ℕ → ℕ → ℕ → Bool
unfolding clear_of top_of looked_up
looked_in tops table low high = cond (clear_of tops low high) false (cond (top_of tops low high) true (looked_up table low high))

-- what is excluded and what is near, as the loops find it; the near test first; and the scene of pairs that are near
unfoldable pub looked_by : Sight → List Float → List ℕ → List ℕ → Scene
looked_by s xs tops table = record { excluded = looked_in tops table; near = λ low high. sees_of s (position_at xs low) (position_at xs high) }

unfoldable pub scene_by : Sight → List Float → List ℕ → List ℕ → Scene
unfolding lazy looked_by
scene_by s xs tops table = lazy (looked_by s xs tops table)

unfoldable pub chosen_by : List ℕ → List ℕ → Scene
chosen_by tops table = record { excluded = looked_in tops table; near = λ low high. true }

-- whether j is near i
unfoldable pub near_to : Sight → List Float → ℕ → ℕ → Bool
near_to s xs i j = sees_of s (position_at xs (min i j)) (position_at xs (max i j))

-- r elements at the memory's front: those of a part that pass the test
pub record Gathered (q : ℕ → Bool) (part : List ℕ) (r : ℕ) (mem : List ℕ) : Type 0 where
  pub few : r ≤ length part
  pub are : take r mem ≡ keep q part

-- from a tally t and a memory, the candidates lead to the tally r and the new memory
abbrev pub Lists : Sight → List Float → List ℕ → List ℕ → Tally → List ℕ → List (ℕ × ℕ) → Tally → List ℕ → Type 0
Lists s xs tops table t old cands r new = record { tally = r; mem = new } ≡ list_of (scene_by s xs tops table) (record { tally = t; mem = old }) cands

-- so it is where it is done, and else the memory is as it was
pub record TriedSays (s : Sight) (xs : List Float) (tops table : List ℕ) (t : Tally) (old : List ℕ) (cands : List (ℕ × ℕ)) (r : Tried) (new : List ℕ) : Type 0 where
  pub lists : r.done ≡ true → Lists s xs tops table t old cands r.tally new
  pub kept : r.done ≡ false → new ≡ old

-- the atoms of a cell, as the tables hand them out
abbrev pub atoms_by : Grid → List ℕ → List ℕ → Cell → List ℕ
atoms_by g starts items c = atoms_in (flatten g c) starts items

-- and they are atoms
pub record Swept (g : Grid) (n : ℕ) (starts items : List ℕ) : Type 0 where
  pub below : (c : Cell) → InGrid g c → Below n (atoms_by g starts items c)

-- a cell's facts and the squared radius
unfoldable pub sight_of : Option Lattice → Float → Sight
sight_of cell r = record { prepared = prepare_of cell; limit = r ⊗ r }

-- the frame's own grid, laid into the tables; `excluded` are the exclusion rows of touching cells
pub record Gridded (cell : Option Lattice) (r : Float) (xs : List Float) (table : List ℕ) (g : Grid) (excluded : ℕ) (starts items : List ℕ) : Type 0 where
  pub is : g ≡ grid_of cell r xs
  pub wide : plain_of cell r xs ≡ false
  pub counted : excluded ≡ touching_rows cell r xs table
  pub part : (c : Cell) → InGrid g c → atoms_by g starts items c ≡ bin (atoms_of xs) (cell_at cell r xs) c
