-- What the program `clumps` prints for an input, whole, and what `solve_clumps` answers and leaves: one outcome from the entry values alone (02, No. 13).
-- Definitions only.
use Rattle.std.specs.Prelude.{Result}
use Rattle.answer.specs.declared.Refusal.{Refusal}
use Rattle.std.specs.Prelude.{ℕ, ◌*◌, ◌≤◌, ◌≡◌, cond, List, [], ◌∷◌, ◌++◌, map, length, take, get_or, replicate, eqb, ltb}
use Rattle.std.proofs.lemmas.List.Edits.{sets}
use Rattle.answer.specs.Seen.{Seen, answered, refused, refused_by, seen}
use Rattle.answer.specs.declared.Refusal.TheVariants.{Lengths}
use Rattle.lists.specs.Lists.{rows, up_to, each, keep, how_many}
use Rattle.hexadecimal.specs.Glyphs.{text2, text4}
use Rattle.sheet_printed.specs.Printed.{refusal_line}
use Rattle.sheet_answer.specs.declared.SheetList.{SheetList}
use Rattle.sheet_answer.specs.List.{sheet_list_of}
use Rattle.clumps_label.specs.Label.{labels_of}

-- 83, lowest number (4), size (4)
unfoldable pub clump_line : ℕ → ℕ → List ℕ
clump_line low size = text2 131 ++ text4 low ++ text4 size ++ (10 ∷ [])

-- how many atoms have the label i
unfoldable pub members_of : List ℕ → ℕ → ℕ
members_of labels i = how_many (λ l. eqb l i) labels

-- the clumps by their lowest atoms, rising: those atoms that are their own label
unfoldable pub lowest_atoms : List ℕ → List ℕ
lowest_atoms labels = keep (λ i. eqb (get_or labels i 0) i) (up_to (length labels))

-- lowest number and size of each
unfoldable pub clump_rows : List ℕ → List (ℕ × ℕ)
unfolding members_of lowest_atoms
clump_rows labels = map (λ i. (i, members_of labels i)) (lowest_atoms labels)

unfoldable pub clump_lines : List (ℕ × ℕ) → List ℕ
unfolding clump_line each
clump_lines l = each (λ p. clump_line p.0 p.1) l

-- the text of a sheet's list: its refusal, or its clumps
unfoldable pub clumps_text : Seen SheetList → List ℕ → List ℕ
unfolding clump_rows clump_lines
clumps_text (answered c) pairs = clump_lines (clump_rows (labels_of c.atoms (rows (take (2 * c.built.pairs) pairs))))
clumps_text (refused n p) pairs = refusal_line n p

-- "lends 8,192 pairs", as `pairs` does
unfoldable pub clumps_printed : List ℕ → List ℕ
unfolding clumps_text
clumps_printed s = clumps_text (sheet_list_of s (replicate 16384 0)).shown (sheet_list_of s (replicate 16384 0)).pairs

-- what is shown, and the lent buffer as it is left
pub record Outcome : Type 0 where
  pub shown : Seen ℕ
  pub out : List ℕ

-- 1: out under 11,264 bytes. Else the text stands at the front of out, and past it out stays as it came
unfoldable pub solve_clumps_of : List ℕ → List ℕ → Outcome
unfolding clumps_printed
solve_clumps_of s out =
    cond (ltb (length out) 11264) (record { shown = refused_by Lengths; out = out })
    (record { shown = answered (length (clumps_printed s)); out = sets out 0 (clumps_printed s) })

abbrev pub SolveClumpsSays : List ℕ → List ℕ → Result ℕ Refusal → List ℕ → Type 0
SolveClumpsSays s out r out' = record { shown = seen r; out = out' } ≡ solve_clumps_of s out

-- The first n bytes are the whole text, and no sheet's text is longer than 11,264 bytes, 1,024 lines of 11. So nothing is ever cut off.
pub record ClumpsFit (s : List ℕ) (n : ℕ) (out' : List ℕ) : Type 0 where
  pub most : n ≤ 11264
  pub room : n ≤ length out'
  pub text : take n out' ≡ clumps_printed s

-- after an answered call
abbrev pub SolveClumpsFits : List ℕ → Result ℕ Refusal → List ℕ → Type 0
SolveClumpsFits s r out' = (n : ℕ) → seen r ≡ answered n → ClumpsFit s n out'
