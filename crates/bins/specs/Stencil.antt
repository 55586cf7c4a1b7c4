-- Three axes, cells, and the fourteen rows of the half stencil. Definitions only.
use Rattle.std.specs.Prelude.{None, Option, Some}
use Rattle.std.specs.Prelude.{Bool, true, cond, ◌&&◌, List, [], ◌∷◌, ℕ, ◌+◌, ◌*◌, ◌/◌, ◌%◌, ◌<◌, ◌≤◌, ◌≡◌, ◌⊎◌, eqb, ltb, ℤ, pos, negsuc, get_or}
use Rattle.bins.specs.declared.Grid.{Grid}
use Rattle.bins.specs.declared.Cell.{Cell}
use Rattle.bins.specs.Axis.{Good, touch, stepped}

-- the cell's place in the tables: neighbor.rs, `Grid::index`
unfoldable pub flatten : Grid → Cell → ℕ
flatten g c = (c.x * g.y.size + c.y) * g.z.size + c.z

-- how many cells there are
unfoldable pub cells : Grid → ℕ
cells g = g.x.size * g.y.size * g.z.size

-- the cell at a place of the tables; past the last, the first
unfoldable pub home_of : Grid → ℕ → Cell
unfolding cells
home_of g h =
    cond (ltb h (cells g)) (record { x = h / g.z.size / g.y.size; y = h / g.z.size % g.y.size; z = h % g.z.size })
    (record { x = 0; y = 0; z = 0 })

unfoldable pub same_cell : Cell → Cell → Bool
same_cell a b = eqb a.x b.x && (eqb a.y b.y && eqb a.z b.z)

-- 01: bins touch when they do on each axis
unfoldable pub touching : Grid → Cell → Cell → Bool
touching g a b = touch g.x a.x b.x && (touch g.y a.y b.y && touch g.z a.z b.z)

-- a step: -1, 0 or 1
abbrev pub UnitStep : ℤ → Type 0
UnitStep d = (d ≡ negsuc 0) ⊎ ((d ≡ pos 0) ⊎ (d ≡ pos 1))

unit_row : ℤ → ℤ → ℤ → List ℤ
unit_row a b c = a ∷ b ∷ c ∷ []

-- the rows of neighbor.rs's `HALF_STENCIL`, as written
unfoldable pub half_stencil : List (List ℤ)
unfolding unit_row
half_stencil =
    unit_row (pos 0) (pos 0) (pos 0)
    ∷ unit_row (pos 0) (pos 0) (pos 1)
    ∷ unit_row (pos 0) (pos 1) (negsuc 0)
    ∷ unit_row (pos 0) (pos 1) (pos 0)
    ∷ unit_row (pos 0) (pos 1) (pos 1)
    ∷ unit_row (pos 1) (negsuc 0) (negsuc 0)
    ∷ unit_row (pos 1) (negsuc 0) (pos 0)
    ∷ unit_row (pos 1) (negsuc 0) (pos 1)
    ∷ unit_row (pos 1) (pos 0) (negsuc 0)
    ∷ unit_row (pos 1) (pos 0) (pos 0)
    ∷ unit_row (pos 1) (pos 0) (pos 1)
    ∷ unit_row (pos 1) (pos 1) (negsuc 0)
    ∷ unit_row (pos 1) (pos 1) (pos 0)
    ∷ unit_row (pos 1) (pos 1) (pos 1)
    ∷ []

-- the step of unit_row s on axis k; past the rows, none
unfoldable pub offset : ℕ → ℕ → ℤ
unfolding half_stencil
offset s k = get_or (get_or half_stencil s []) k (pos 0)

unfoldable pub joined_bins : Option ℕ → Option ℕ → Option ℕ → Option Cell
joined_bins None y z = None
joined_bins (Some a) None z = None
joined_bins (Some a) (Some b) None = None
joined_bins (Some a) (Some b) (Some c) = Some (record { x = a; y = b; z = c })

-- the cell that unit_row s leads to, or nowhere where the step leaves an open axis: neighbor.rs, `offset_index`
unfoldable pub reached : Grid → Cell → ℕ → Option Cell
unfolding stepped joined_bins offset
reached g c s =
    joined_bins (stepped g.x c.x (offset s 0)) (stepped g.y c.y (offset s 1))
    (stepped g.z c.z (offset s 2))

abbrev pub GoodGrid : Grid → Type 0
GoodGrid g = Good g.x × Good g.y × Good g.z

abbrev pub InGrid : Grid → Cell → Type 0
InGrid g c = (c.x < g.x.size) × (c.y < g.y.size) × (c.z < g.z.size)

-- a unit_row after the first that leads from a to b
abbrev pub Row : Grid → Cell → Cell → Type 0
Row g a b = (s : ℕ) × (1 ≤ s) × (s < 14) × (reached g a s ≡ Some b)

-- Two cells touch exactly where they are one cell, or one unit_row leads from one of them to the other; and then only one does, and only one way.
pub record MetOnce (g : Grid) (a b : Cell) : Type 0 where
  pub found : touching g a b ≡ true → (a ≡ b → ⊥) → Row g a b ⊎ Row g b a
  pub touches : Row g a b → touching g a b ≡ true
  pub touches_back : Row g b a → touching g a b ≡ true
  pub one_row : (p q : Row g a b) → p.0 ≡ q.0
  pub one_way : Row g a b → Row g b a → ⊥
  pub apart : Row g a b → a ≡ b → ⊥
