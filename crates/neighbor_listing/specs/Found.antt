-- Which pairs a build of a float frame lists, in which order, and how many it checks: 01, "Pair list rules"; neighbor.rs, `build` (158-183), `build_all_pairs`,
-- `build_binned` and `consider` (185-251). Definitions only.
use Rattle.std.specs.Prelude.{Option}
use Rattle.cell.specs.declared.Lattice.{Lattice}
use Rattle.std.specs.Prelude.{ℕ, Bool, true, cond, ◌&&◌, List, Float}
use Rattle.std.specs.Float.Ieee.{le}
use Rattle.lists.specs.Atoms.{atoms_of}
use Rattle.float.specs.Arith.{◌⊗◌}
use Rattle.lists.specs.Lists.{how_many, all_pairs, rows}
use Rattle.cell.specs.Vec.{sub_of, norm2_of, position_at}
use Rattle.cell.specs.Cell.{image_of}
use Rattle.bins.specs.Stencil.{touching}
use Rattle.bins.specs.Traversal.{bin, pairs_of}
use Rattle.bins.specs.Listing.{Scene, free, found_of}
use Rattle.exclusions.specs.Table.{is_row}
use Rattle.neighbor_grid.specs.Grid.{grid_of, cell_at, plain_of}

-- "The difference is low atom minus high atom"; "its computed square is the limit, equality listed" (171, 247-248)
unfoldable pub near_of : Option Lattice → Float → List Float → ℕ → ℕ → Bool
near_of cell r xs low high = le (norm2_of (image_of (sub_of (position_at xs low) (position_at xs high)) cell).diff) (r ⊗ r)

-- two atoms are excluded where the table has the row low, high
unfoldable pub scene_of : Option Lattice → Float → List Float → List ℕ → Scene
scene_of cell r xs table = record { excluded = λ low high. is_row (low, high) (rows table); near = near_of cell r xs }

-- "Order: home cells by x, y, z; then the 14 rows of HALF_STENCIL as written; atoms of a bin rising"; "all pairs (i, then j, rising)" without a grid
unfoldable pub candidates : Option Lattice → Float → List Float → List (ℕ × ℕ)
candidates cell r xs = cond (plain_of cell r xs) (all_pairs (atoms_of xs)) (pairs_of (grid_of cell r xs) (bin (atoms_of xs) (cell_at cell r xs)))

-- the candidates that are not excluded, and near, in their order
unfoldable pub near_pairs : Option Lattice → Float → List Float → List ℕ → List (ℕ × ℕ)
near_pairs cell r xs table = found_of (scene_of cell r xs table) (candidates cell r xs)

-- the two atoms' bins are the same or touch; where no grid is laid, all pairs count as touching
unfoldable pub beside : Option Lattice → Float → List Float → ℕ × ℕ → Bool
beside cell r xs p = cond (plain_of cell r xs) true (touching (grid_of cell r xs) (cell_at cell r xs p.0) (cell_at cell r xs p.1))

-- "The reported checks are the number of unexcluded touching pairs", counted over all pairs
unfoldable pub checks_of : Option Lattice → Float → List Float → List ℕ → ℕ
checks_of cell r xs table = how_many (λ p. beside cell r xs p && free (scene_of cell r xs table) p) (all_pairs (atoms_of xs))
