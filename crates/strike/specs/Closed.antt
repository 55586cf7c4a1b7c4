-- Tables closed up (02, No. 11): "close up positions, velocities, masses, charges and species together, survivors in their old order. Bonds, angles and exclusions
-- naming a struck atom go, with their `per_bond`, `per_bond_k` and angle rows; exclusions naming no atom and rows past the last bond or angle go too, and the rest
-- are renumbered." Definitions only.
use Rattle.std.specs.Prelude.{ℕ, ◌+◌, ◌*◌, Bool, ◌&&◌, List, map, length, get_or, eqb, ltb}
use Rattle.std.proofs.lemmas.List.Edits.{sets}
use Rattle.lists.specs.Lists.{up_to, each, keep, how_many, every}

-- atom i is there, and its mark is 0
unfoldable pub survives : List ℕ → ℕ → Bool
survives marks i = ltb i (length marks) && eqb (get_or marks i 0) 0

-- how many survive before it: its number when all is closed up
unfoldable pub new_number : List ℕ → ℕ → ℕ
new_number marks i = how_many (survives marks) (up_to i)

-- row k of a table of w a row, whose element e is f e
unfoldable pub row_from : {A : Type 0} → (ℕ → A) → ℕ → ℕ → List A
row_from f w k = map (λ c. f (w * k + c)) (up_to w)

-- each atom survives that row k of a table of names has
unfoldable pub row_survives : (marks : List ℕ) (w : ℕ) (names : List ℕ) → ℕ → Bool
row_survives marks w names k = every (λ c. survives marks (get_or names (w * k + c) 0)) (up_to w)

-- the k-th of so many bonds or angles is there, and stays: what the tables beside them go by
unfoldable pub link_survives : (marks : List ℕ) (w links : ℕ) (names : List ℕ) → ℕ → Bool
link_survives marks w links names k = ltb k links && row_survives marks w names k

-- of the first m rows those that stay, in order
abbrev pub staying : (ℕ → Bool) → ℕ → List ℕ
staying q m = keep q (up_to m)

-- they stand at the front of the table, one after the other, and past them it is as it came
unfoldable pub closed_up : {A : Type 0} → (ℕ → A) → ℕ → (ℕ → Bool) → ℕ → List A → List A
closed_up f w q m xs = sets xs 0 (each (row_from f w) (staying q m))
