-- Every pair of n atoms as rows of a table that is filled again and again: what the loops say of themselves. Nobody has to believe it. Definitions only.
use Rattle.std.specs.Prelude.{◌≡◌, ℕ, ◌+◌, ◌*◌, ◌-◌, ◌<◌, ◌≤◌, take, set}
use mathlib.Core.List.{List, ◌∷◌, ◌++◌, foldl}
use Rattle.lists.specs.Lists.{numbers, with_each, inside, rows}

-- what is left of them from (i, j) on
unfoldable pub pairs_from : ℕ → ℕ → ℕ → List (ℕ × ℕ)
pairs_from n i j = with_each i (numbers j (n - j)) ++ inside (numbers (i + 1) (n - (i + 1)))

-- (i, j) is such a place: past the last partner only past the last atom
pub record PairSpot (n i j : ℕ) : Type 0 where
  pub rises : i < j
  pub ends : n ≤ j → n ≤ i + 1

-- row c is (i, j), and (i', j') comes next
pub record PairPut (n : ℕ) (table table' : List ℕ) (c i j i' j' : ℕ) : Type 0 where
  pub spot : PairSpot n i' j'
  pub stored : table' ≡ set (set table (2 * c) i) (2 * c + 1) j
  pub next : pairs_from n i j ≡ (i, j) ∷ pairs_from n i' j'

-- the first c rows are the pairs from (i, j) on, and (i', j') comes next
pub record PairsFilled (n : ℕ) (table : List ℕ) (c i j i' j' : ℕ) : Type 0 where
  pub spot : PairSpot n i' j'
  pub some : 0 < c
  pub few : c ≤ 1024
  pub same : take c (rows table) ++ pairs_from n i' j' ≡ pairs_from n i j

-- from (i, j) on with t so far, all gives r
pub record PairsLeft {B : Type 0} (f : B → ℕ × ℕ → B) (n i j : ℕ) (t r : B) : Type 0 where
  pub spot : PairSpot n i j
  pub same : foldl f t (pairs_from n i j) ≡ r
