-- A table of angles, three atoms a row: (i, apex, k). Definitions only.
use Rattle.std.specs.Prelude.{Bool, not, ◌&&◌, List, ℕ, ◌+◌, ◌*◌, ◌/◌, ltb, length, get_or}
use Rattle.lists.specs.Lists.{up_to, first_where}
use Rattle.potentials_angle.specs.declared.Corner.{Corner}

-- row r
unfoldable pub corner_at : List ℕ → ℕ → Corner
corner_at angles r = record { first = get_or angles (3 * r) 0; apex = get_or angles (3 * r + 1) 0; last = get_or angles (3 * r + 2) 0 }

-- of n atoms, the row names one that is not there
abbrev pub is_missing : ℕ → Corner → Bool
is_missing n c = not (ltb c.first n && ltb c.apex n && ltb c.last n)

-- refusal 4: the lowest such row, or the number of rows where every row's atoms are there
unfoldable pub missing_of : ℕ → List ℕ → ℕ
missing_of n angles = first_where (λ r. is_missing n (corner_at angles r)) (up_to (length angles / 3))
