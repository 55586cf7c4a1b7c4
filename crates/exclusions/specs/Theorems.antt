-- THEOREMS. "The table answers as a set does" (01), said of the calls. proofs/Gathered.antt proves them of every input. Definitions only.
use Rattle.std.specs.Prelude.{ℕ, ◌≤◌, ◌<◌, max, ◌≡◌, Bool, true, false, not, ◌&&◌, ◌||◌, List, take, eqb}
use Rattle.answer.specs.Seen.{answered}
use Rattle.lists.specs.Lists.{some, ordered, rows}
use Rattle.exclusions.specs.Table.{same_pair, is_table, is_row, looked_up}
use Rattle.exclusions.specs.Calls.{exclude_of, set_of}

-- the pair p, as a caller gives it, excludes x: two atoms, and x is they, low before high
abbrev pub excludes : ℕ × ℕ → ℕ × ℕ → Bool
excludes x p = not (eqb p.0 p.1) && same_pair x (ordered p.0 p.1)

-- the rows l are an exclusion table, of the pairs that pass the test
pub record IsSet (l : List (ℕ × ℕ)) (test : ℕ × ℕ → Bool) : Type 0 where
  pub sorted : is_table l ≡ true
  pub has : (x : ℕ × ℕ) → is_row x l ≡ test x

-- after an answered `exclude`: what it had, and the pair
abbrev pub ExcludeAdds : (count i j : ℕ) → List ℕ → Type 0
ExcludeAdds count i j t =
    (m : ℕ) → (exclude_of count i j t).shown ≡ answered m → IsSet (take m (rows (exclude_of count i j t).table)) (λ x. excludes x (i, j) || is_row x (take count (rows t)))

-- after an answered `set_exclusions`: the raw pairs
abbrev pub SetHolds : (raw t : List ℕ) → Type 0
SetHolds raw t = (m : ℕ) → (set_of raw t).shown ≡ answered m → IsSet (take m (rows (set_of raw t).table)) (λ x. some (excludes x) (rows raw))

-- the search finds just the rows
abbrev pub LooksUp : List ℕ → Type 0
LooksUp t = is_table (rows t) ≡ true → (low high : ℕ) → looked_up t low high ≡ is_row (low, high) (rows t)

-- "numbers past the last atom are harmless": of the pairs of n atoms such a pair excludes none
abbrev pub PastHarmless : (n i j : ℕ) → Type 0
PastHarmless n i j = n ≤ max i j → (x : ℕ × ℕ) → x.1 < n → excludes x (i, j) ≡ false
