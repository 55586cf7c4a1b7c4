-- The checks of a build, counted from its candidates: a scene that looks up only near pairs, and the exclusion rows that are candidates. Definitions only.
use Rattle.std.specs.Prelude.{ℕ, Bool, false, not, ◌&&◌, List, get_or, ltb}
use Rattle.lists.specs.Lists.{how_many}
use Rattle.bins.specs.declared.Grid.{Grid}
use Rattle.bins.specs.declared.Cell.{Cell}
use Rattle.bins.specs.Stencil.{home_of, touching}
use Rattle.bins.specs.Listing.{Scene}

-- the near test first, and the lookup of a near pair only: it finds what the scene finds (`lazy-found`), and counts every candidate as a check
unfoldable pub lazy : Scene → Scene
lazy e = record { excluded = λ low high. false; near = λ low high. e.near low high && not (e.excluded low high) }

-- 01: "numbers past the last atom are harmless": a row both of whose atoms are there
abbrev pub there : ℕ → ℕ × ℕ → Bool
there n p = ltb p.0 n && ltb p.1 n

-- and whose cells touch
abbrev pub beside_in : Grid → ℕ → (ℕ → Cell) → ℕ × ℕ → Bool
beside_in g n cell_of p = there n p && touching g (cell_of p.0) (cell_of p.1)

-- of all pairs, the rows that are among them
unfoldable pub rows_below : ℕ → List (ℕ × ℕ) → ℕ
rows_below n rs = how_many (there n) rs

-- of the pairs in touching cells, the rows that are among them
unfoldable pub rows_touching : Grid → ℕ → (ℕ → Cell) → List (ℕ × ℕ) → ℕ
rows_touching g n cell_of rs = how_many (beside_in g n cell_of) rs

-- each atom's cell, from the place that it has in the grid's tables
abbrev pub cell_from : Grid → List ℕ → ℕ → Cell
cell_from g places i = home_of g (get_or places i 0)
