-- The traversal: home cells by x, y, z; the fourteen rows; the atoms of the bins. Definitions only.
use Rattle.std.specs.Prelude.{None, Option, Some}
use Rattle.std.specs.Prelude.{true, List, [], ◌≡◌, ℕ, zero, suc, ◌<◌}
use Rattle.lists.specs.Lists.{up_to, each, keep, inside, across, Two}
use Rattle.bins.specs.declared.Grid.{Grid}
use Rattle.bins.specs.declared.Cell.{Cell}
use Rattle.bins.specs.Stencil.{InGrid, same_cell, reached, touching}

-- the atoms of a cell, rising
unfoldable pub bin : ℕ → (ℕ → Cell) → Cell → List ℕ
unfolding keep same_cell
bin n cell_of c = keep (λ k. same_cell (cell_of k) c) (up_to n)

-- what a home cell and the cell reached by row s list: row 0 is the home cell itself
unfoldable pub met : (Cell → List ℕ) → Cell → ℕ → Option Cell → List (ℕ × ℕ)
unfolding inside across
met atoms home s None = []
met atoms home zero (Some other) = inside (atoms home)
met atoms home (suc s) (Some other) = across (atoms home) (atoms other)

-- what one row lists from one home cell
unfoldable pub visit : Grid → (Cell → List ℕ) → Cell → ℕ → List (ℕ × ℕ)
unfolding met reached
visit g atoms home s = met atoms home s (reached g home s)

-- what the rows list from one home cell
unfoldable pub cell_pairs : Grid → (Cell → List ℕ) → Cell → List (ℕ × ℕ)
unfolding each visit
cell_pairs g atoms home = each (visit g atoms home) (up_to 14)

-- 01's order, neighbor.rs, `build_binned`: home cells by x, y, z, and for each the rows in order
unfoldable pub pairs_of : Grid → (Cell → List ℕ) → List (ℕ × ℕ)
unfolding each cell_pairs
pairs_of g atoms =
    each (λ x. each (λ y. each (λ z. cell_pairs g atoms (record { x = x; y = y; z = z })) (up_to g.z.size)) (up_to g.y.size))
    (up_to g.x.size)

-- two atoms whose cells touch
abbrev pub Near : Grid → ℕ → (ℕ → Cell) → ℕ × ℕ → Type 0
Near g n cell_of p = Two n p × (touching g (cell_of p.0) (cell_of p.1) ≡ true)

-- each atom's cell is in the grid
abbrev pub Placed : Grid → ℕ → (ℕ → Cell) → Type 0
Placed g n cell_of = (k : ℕ) → k < n → InGrid g (cell_of k)
