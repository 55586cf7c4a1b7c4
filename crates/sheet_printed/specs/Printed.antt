-- What the program prints, in bytes (01, "Job sheet", "Output"). Definitions only.
use Rattle.std.specs.Prelude.{ℕ, Bool, cond, List, [], ◌∷◌, ◌++◌}
use Rattle.lists.specs.Lists.{each}
use Rattle.hexadecimal.specs.Glyphs.{text2, text4, text8}

abbrev pub flag_of : Bool → ℕ
flag_of on = cond on 1 0

-- 81, pairs (8), checks (8), 01 if fallback else 00
unfoldable pub count_line : ℕ → ℕ → Bool → List ℕ
count_line pairs checks fallback = text2 129 ++ text8 pairs ++ text8 checks ++ text2 (flag_of fallback) ++ (10 ∷ [])

-- 82, low (4), high (4)
unfoldable pub pair_line : ℕ → ℕ → List ℕ
pair_line low high = text2 130 ++ text4 low ++ text4 high ++ (10 ∷ [])

-- 8f, number (2), place (8)
unfoldable pub refusal_line : ℕ → ℕ → List ℕ
refusal_line number place = text2 143 ++ text2 number ++ text8 place ++ (10 ∷ [])

-- a line for each pair, in the order of the list
unfoldable pub pair_lines : List (ℕ × ℕ) → List ℕ
unfolding each
pair_lines ps = each (λ p. pair_line p.0 p.1) ps

-- the answer of a build: its count line, then a line for each pair
unfoldable pub built_text : ℕ → ℕ → Bool → List (ℕ × ℕ) → List ℕ
built_text count checks fallback ps = count_line count checks fallback ++ pair_lines ps
