-- THEOREM (02, No. 13): what is printed for a sheet that is answered is its clumps, rising by lowest number, each with its size, and the "sizes add up to
-- the atoms". `solve_clumps` promises it of every input. Definitions only.
use Rattle.std.specs.Prelude.{Result}
use Rattle.answer.specs.declared.Refusal.{Refusal}
use Rattle.std.specs.Prelude.{ℕ, ◌+◌, ◌*◌, ◌≤◌, ◌<◌, ◌≡◌, List, [], ◌∷◌, map, length, take, replicate}
use Rattle.answer.specs.Seen.{answered, seen}
use Rattle.lists.specs.Exact.{◌∈◌, Exactly}
use Rattle.lists.specs.Lists.{rows}
use Rattle.sheet_answer.specs.declared.SheetList.{SheetList}
use Rattle.sheet_answer.specs.List.{sheet_list_of}
use Rattle.clumps_label.specs.Theorems.{Chain}
use Rattle.clumps_answer.specs.Clumps.{clump_lines, clumps_printed}

unfoldable pub added_up : List ℕ → ℕ
added_up [] = 0
added_up (a ∷ l) = a + added_up l

-- each number is below all that follow
abbrev pub Rises : List ℕ → Type 0
Rises [] = Unit {0}
Rises (a ∷ l) = ((b : ℕ) → b ∈ l → a < b) × Rises l

-- of n atoms and the rows of l, the clumps: lowest number and size
pub record Clumps (n : ℕ) (l : List (ℕ × ℕ)) (clumps : List (ℕ × ℕ)) : Type 0 where
  -- "rising by lowest number"
  pub rising : Rises (map (λ p. p.0) clumps)
  -- a clump's number is an atom, and the lowest that a chain reaches from it
  pub lowest : (p : ℕ × ℕ) → p ∈ clumps → (p.0 < n) × ((j : ℕ) → Chain l p.0 j → p.0 ≤ j)
  -- its size is how many atoms a chain joins with it
  pub size : (p : ℕ × ℕ) → p ∈ clumps → (members : List ℕ) × Exactly (λ j. (j < n) × Chain l p.0 j) members × (length members ≡ p.1)
  -- every atom is in one
  pub every : (j : ℕ) → j < n → (p : ℕ × ℕ) × (p ∈ clumps) × Chain l j p.0
  -- "sizes add up to the atoms"
  pub sum : added_up (map (λ p. p.1) clumps) ≡ n

-- what is printed of an answered sheet, numbers of four digits each
pub record ClumpsOf (s : List ℕ) (c : SheetList) : Type 0 where
  pub clumps : List (ℕ × ℕ)
  pub text : clumps_printed s ≡ clump_lines clumps
  pub are : Clumps c.atoms (rows (take (2 * c.built.pairs) (sheet_list_of s (replicate 16384 0)).pairs)) clumps
  pub digits : (p : ℕ × ℕ) → p ∈ clumps → (p.0 < 65536) × (p.1 < 65536)

-- after an answered call
abbrev pub SolveClumpsPrints : List ℕ → Result ℕ Refusal → Type 0
SolveClumpsPrints s r = (n : ℕ) → seen r ≡ answered n → (c : SheetList) → (sheet_list_of s (replicate 16384 0)).shown ≡ answered c → ClumpsOf s c
