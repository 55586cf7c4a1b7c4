-- Demand 3 for the whole-number frame, said of the answer and of the lent pairs themselves. The order is said by `buildOf`. Definitions only.
use Rattle.std.specs.Prelude.{Result}
use Rattle.answer.specs.declared.Refusal.{Refusal}
use Rattle.frame.specs.declared.Built.{Built}
use Rattle.std.specs.Prelude.{ℕ, ◌*◌, ◌≤◌, ◌≡◌, false, not, ◌&&◌, List, take}
use Rattle.lists.specs.Atoms.{atoms_of}
use Rattle.answer.specs.Seen.{answered, seen}
use Rattle.lists.specs.Exact.{Exactly}
use Rattle.lists.specs.Lists.{how_many, all_pairs, rows, Two}
use Rattle.exclusions.specs.Table.{is_row}
use Rattle.frame.specs.Distance.{spot_of, square_of, squared_of}
use Rattle.frame.specs.Build.{Given, beside}

-- "exactly the unexcluded pairs whose exact nearest-image squared distance is at most the squared radius": bins excuse nothing
abbrev pub Close : Given → ℕ × ℕ → Type 0
Close i p =
    Two (atoms_of i.coordinates) p
    × (is_row p (rows i.exclusions) ≡ false)
    × (squared_of i.frame (spot_of i.coordinates p.0) (spot_of i.coordinates p.1) ≤ square_of i.frame.radius)

-- the stored pairs are these, once each; the checks are the unexcluded pairs whose bins are the same or touch
pub record Listed (i : Given) (c : Built) (pairs : List ℕ) : Type 0 where
  pub exactly : Exactly (Close i) (rows (take (2 * c.pairs) pairs))
  pub checks : c.checks ≡ how_many (λ p. beside i.frame i.coordinates p && not (is_row p (rows i.exclusions))) (all_pairs (atoms_of i.coordinates))

-- after an answered build
abbrev pub BuildLists : Given → Result Built Refusal → List ℕ → Type 0
BuildLists i r pairs = (c : Built) → seen r ≡ answered c → Listed i c pairs
