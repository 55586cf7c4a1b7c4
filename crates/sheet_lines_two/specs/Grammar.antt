-- The grammar of the second form (02, No. 9 and 10): the bytes of each line, and a sheet as whole lines one after the other. Definitions only.
use Rattle.std.specs.Prelude.{ℕ, ◌^◌, ◌<◌, ◌≡◌, cond, List, [], ◌∷◌, ◌++◌, eqb}
use Rattle.hexadecimal.specs.Glyphs.{text2, text4, text8}
use Rattle.sheet_lines.specs.Grammar.{text888, line_text, Valid, WellFormed}
use Rattle.sheet_lines.specs.declared.Head.{Head}
use Rattle.sheet_lines.specs.declared.Line.{Line}
use Rattle.sheet_lines.specs.declared.Line.TheVariants.{Header, Atom, Exclusion, Malformed, End}
use Rattle.sheet_lines_two.specs.declared.TwoLine.{TwoLine}

-- a header's 40 digits
unfoldable pub head_text : Head → List ℕ
head_text h = text2 17 ++ text4 h.atoms ++ text888 h.ex h.ey h.ez ++ text2 h.mask ++ text8 h.radius

-- its end: the digit pair where one is written, and the newline
unfoldable pub rule_text : ℕ → List ℕ
rule_text t = cond (eqb t 0) (10 ∷ []) (text2 t ++ (10 ∷ []))

-- a line's bytes
unfoldable pub text_with : Line → ℕ → List ℕ
text_with (Header h) t = head_text h ++ rule_text t
text_with (Atom n x y z) t = text2 18 ++ text4 n ++ text888 x y z ++ text8 t ++ (10 ∷ [])
text_with (Exclusion a b) t = line_text (Exclusion a b)
text_with Malformed t = []
text_with End t = []

abbrev pub two_text : TwoLine → List ℕ
two_text l = text_with l.core l.extra

-- a line's numbers are those that a sheet can hold; an atom has a species, a header a digit pair 01 or 02, or none
abbrev pub ValidWith : Line → ℕ → Type 0
ValidWith (Header h) t = Valid (Header h) × (t < 3)
ValidWith (Atom n x y z) t = Valid (Atom n x y z) × (t < 2 ^ 32)
ValidWith (Exclusion a b) t = Valid (Exclusion a b) × (t ≡ 0)
ValidWith Malformed t = ⊥
ValidWith End t = ⊥

abbrev pub ValidTwo : TwoLine → Type 0
ValidTwo l = ValidWith l.core l.extra

abbrev pub WellTwo : TwoLine → Type 0
WellTwo l = WellFormed l.core

-- a sheet's bytes: those of its lines, one after the other
abbrev pub text_two : List TwoLine → List ℕ
text_two [] = []
text_two (l ∷ ls) = two_text l ++ text_two ls
