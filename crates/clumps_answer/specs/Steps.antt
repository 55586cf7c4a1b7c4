-- What private functions say of themselves. Nobody has to believe it.
use Rattle.std.specs.Prelude.{ℕ, ◌*◌, ◌≤◌, cond, List, [], length, take, get_or, eqb}
use Rattle.lists.specs.Exact.{◌∈◌}
use Rattle.lists.specs.Lists.{rows, Two}
use Rattle.clumps_answer.specs.Clumps.{clump_line, members_of}

-- the line of atom i, where it is the lowest of its clump
unfoldable pub clump_line_at : List ℕ → ℕ → List ℕ
unfolding clump_line members_of
clump_line_at labels i = cond (eqb (get_or labels i 0) i) (clump_line i (members_of labels i)) []

-- the first `count` pairs are there, each two of the atoms, of which there are few
pub record RowsAmong (atoms count : ℕ) (pairs : List ℕ) : Type 0 where
  pub few : atoms ≤ 1024
  pub room : 2 * count ≤ length pairs
  pub two : (p : ℕ × ℕ) → p ∈ rows (take (2 * count) pairs) → Two atoms p
