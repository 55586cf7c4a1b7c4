-- What `list` answers and leaves in everything lent. Definitions only.
use Rattle.std.specs.Prelude.{Option}
use Rattle.cell.specs.declared.Lattice.{Lattice}
use Rattle.std.specs.Prelude.{ℕ, ◌/◌, Bool, true, false, cond, not, ◌||◌, List, length, leb, Float}
use Rattle.lists.specs.Lists.{rows}
use Rattle.bins.specs.Listing.{laid_of}
use Rattle.exclusions.specs.Table.{is_table}
use Rattle.neighbor_grid.specs.Grid.{plain_of, crowded}
use Rattle.neighbor_grid.specs.Layout.{unfit_of, starts_laid, items_laid}
use Rattle.neighbor_listing.specs.declared.Listed.{Listed}
use Rattle.neighbor_listing.specs.declared.Listed.TheVariants.{Found, Full, Crowded, Unfit}
use Rattle.neighbor_listing.specs.Found.{near_pairs, checks_of}

-- the answer, and the lent memory at exit
pub record Outcome : Type 0 where
  pub answer : Listed
  pub pairs : List ℕ
  pub starts : List ℕ
  pub items : List ℕ

abbrev pub outcome : Listed → List ℕ → List ℕ → List ℕ → Outcome
outcome answer pairs starts items = record { answer = answer; pairs = pairs; starts = starts; items = items }

-- so many pairs: they fit, or they are too many for the room
unfoldable pub shown_of : ℕ → ℕ → ℕ → Bool → Listed
shown_of count checks room fallback = cond (leb count room) (Found count checks fallback) (Full count)

-- a run: its answer, the first pairs that fit, and the grid tables
unfoldable pub run_of : Option Lattice → Float → List Float → List ℕ → List ℕ → List ℕ → List ℕ → Bool → Outcome
run_of cell r xs table pairs starts items fallback =
    outcome
    (shown_of (length (near_pairs cell r xs table)) (checks_of cell r xs table) (length pairs / 2) fallback)
    (laid_of pairs (near_pairs cell r xs table))
    starts
    items

-- what the callers have tested: the atoms are too many, or the items too few for them, or the table is no exclusion table
unfoldable pub unlisted : List Float → List ℕ → List ℕ → Bool
unlisted xs table items = unfit_of xs (length items) || not (is_table (rows table))

-- "These come before refusal 7"; without a grid the grid tables are untouched
unfoldable pub listing_of : Option Lattice → Float → List Float → List ℕ → List ℕ → List ℕ → List ℕ → Outcome
listing_of cell r xs table pairs starts items =
    cond (unlisted xs table items) (outcome Unfit pairs starts items)
    (cond (plain_of cell r xs) (run_of cell r xs table pairs starts items true)
    (cond (crowded cell r xs (length starts)) (outcome Crowded pairs starts items)
    (run_of cell r xs table pairs (starts_laid cell r xs starts) (items_laid cell r xs items) false)))
