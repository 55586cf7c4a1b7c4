-- What `lay` answers and leaves in the lent tables. Definitions only.
use Rattle.std.specs.Prelude.{Option}
use Rattle.cell.specs.declared.Lattice.{Lattice}
use Rattle.std.specs.Prelude.{ℕ, ◌+◌, List, ◌++◌, Bool, cond, not, ◌&&◌, ◌||◌, length, drop, ltb, Float}
use Rattle.lists.specs.Atoms.{atoms_of, most_atoms}
use Rattle.lists.specs.Lists.{rows}
use Rattle.bins.specs.Stencil.{cells}
use Rattle.candidates.specs.Checks.{rows_touching}
use Rattle.bins.specs.Sort.{starts_of, items_of}
use Rattle.neighbor_grid.specs.declared.Layout.{Layout}
use Rattle.neighbor_grid.specs.declared.Layout.TheVariants.{Unfit, AllPairs, TooMany, Laid}
use Rattle.neighbor_grid.specs.Grid.{grid_of, cell_at, plain_of, crowded, home_at}

-- more atoms than there can be, or too little room for them: what the caller has tested
unfoldable pub unfit_of : List Float → ℕ → Bool
unfit_of xs items = ltb most_atoms (atoms_of xs) || ltb items (atoms_of xs)

-- how many rows of the exclusion table name two atoms whose cells are the same or touch
unfoldable pub touching_rows : Option Lattice → Float → List Float → List ℕ → ℕ
touching_rows cell r xs table =
    rows_touching (grid_of cell r xs) (atoms_of xs) (cell_at cell r xs) (rows table)

-- all pairs, a grid, or too many cells: 01, "These come before refusal 7"
unfoldable pub layout_of : Option Lattice → Float → List Float → List ℕ → ℕ → ℕ → Layout
layout_of cell r xs table starts items =
    cond (unfit_of xs items) Unfit
    (cond (plain_of cell r xs) AllPairs
    (cond (crowded cell r xs starts) TooMany (Laid (grid_of cell r xs) (touching_rows cell r xs table))))

-- a grid is laid
unfoldable pub laid_for : Option Lattice → Float → List Float → ℕ → ℕ → Bool
laid_for cell r xs starts items = not (unfit_of xs items) && (not (plain_of cell r xs) && not (crowded cell r xs starts))

-- the grid tables (346-364): where each cell's atoms start, and the atoms cell by cell; what lies past them stays
abbrev pub starts_laid : Option Lattice → Float → List Float → List ℕ → List ℕ
starts_laid cell r xs starts = starts_of (home_at cell r xs) (atoms_of xs) (cells (grid_of cell r xs)) ++ drop (cells (grid_of cell r xs) + 1) starts

abbrev pub items_laid : Option Lattice → Float → List Float → List ℕ → List ℕ
items_laid cell r xs items = items_of (home_at cell r xs) (atoms_of xs) (cells (grid_of cell r xs)) ++ drop (atoms_of xs) items

-- the lent tables at exit: as they came where no grid is laid
unfoldable pub starts_after : Option Lattice → Float → List Float → List ℕ → List ℕ → List ℕ
starts_after cell r xs starts items = cond (laid_for cell r xs (length starts) (length items)) (starts_laid cell r xs starts) starts

unfoldable pub items_after : Option Lattice → Float → List Float → List ℕ → List ℕ → List ℕ
items_after cell r xs starts items = cond (laid_for cell r xs (length starts) (length items)) (items_laid cell r xs items) items
