-- Demand 3 for the float frame, said of the answer and of the lent pairs themselves. The order is said by `updatedOf`. Definitions only.
use Rattle.std.specs.Prelude.{◌≡◌, ℕ, ◌*◌, true, false, not, ◌&&◌, List, take}
use Rattle.lists.specs.Atoms.{atoms_of}
use Rattle.lists.specs.Exact.{Exactly}
use Rattle.lists.specs.Lists.{how_many, all_pairs, rows, Two}
use Rattle.exclusions.specs.Table.{is_row}
use Rattle.neighbor_listing.specs.Found.{near_of, beside}
use Rattle.neighbor.specs.declared.State.{State}
use Rattle.neighbor.specs.declared.Updated.{Updated}
use Rattle.neighbor.specs.State.{radius_of}
use Rattle.neighbor.specs.Update.{Given}

-- "exactly the pairs that are not excluded, whose bins are the same or touch, and whose computed squared distance is at most the computed squared radius"
abbrev pub Close : Given → ℕ × ℕ → Type 0
Close i p =
    Two (atoms_of i.positions) p
    × (is_row p (rows i.exclusions) ≡ false)
    × (beside i.cell (radius_of i.state) i.positions p ≡ true)
    × (near_of i.cell (radius_of i.state) i.positions p.0 p.1 ≡ true)

-- the stored pairs are these, once each; the checks are the unexcluded pairs whose bins are the same or touch
pub record Listed (i : Given) (s : State) (pairs : List ℕ) : Type 0 where
  pub exactly : Exactly (Close i) (rows (take (2 * s.pairs) pairs))
  pub checks : s.checks ≡ how_many (λ p. beside i.cell (radius_of i.state) i.positions p && not (is_row p (rows i.exclusions))) (all_pairs (atoms_of i.positions))

-- after an answered build, also one that a question led to
abbrev pub UpdateLists : Given → Updated → List ℕ → Type 0
UpdateLists i r pairs = r.rebuilt ≡ true → Listed i r.state pairs
