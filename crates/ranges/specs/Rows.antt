-- Refusal 4: the first row of two atoms that names one not there. Definitions only.
use Rattle.std.specs.Prelude.{Bool, true, not, ◌&&◌, ◌≡◌, List, ℕ, ltb}
use Rattle.lists.specs.Lists.{every, first_where}

-- of n atoms, the row names one that is not there
abbrev pub is_absent : ℕ → ℕ × ℕ → Bool
is_absent n p = not (ltb p.0 n && ltb p.1 n)

-- the lowest such row, or the number of rows where every row's atoms are there
unfoldable pub absent_of : ℕ → List (ℕ × ℕ) → ℕ
absent_of n l = first_where (is_absent n) l

-- what a private function says of all rows at once: nobody has to believe it
abbrev pub is_below : ℕ → ℕ → Bool
is_below n x = ltb x n

pub record ThereSays (table : List ℕ) (n : ℕ) (r : Bool) : Type 0 where
  pub all : r ≡ true → every (is_below n) table ≡ true
