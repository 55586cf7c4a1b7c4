-- The grammar of a sheet (01, "Job sheet"): the bytes of each line, and a sheet as whole lines one after the other. Definitions only.
use Rattle.std.specs.Prelude.{ℕ, ◌^◌, ◌<◌, ◌≡◌, List, [], ◌∷◌, ◌++◌}
use Rattle.hexadecimal.specs.Glyphs.{text2, text4, text8}
use Rattle.sheet_lines.specs.declared.Line.{Line}
use Rattle.sheet_lines.specs.declared.Line.TheVariants.{Header, Atom, Exclusion, Malformed, End}

-- three numbers of 8 digits
unfoldable pub text888 : ℕ → ℕ → ℕ → List ℕ
text888 x y z = text8 x ++ text8 y ++ text8 z

-- a line's bytes
unfoldable pub line_text : Line → List ℕ
line_text (Header h) = text2 1 ++ text4 h.atoms ++ text888 h.ex h.ey h.ez ++ text2 h.mask ++ text8 h.radius ++ (10 ∷ [])
line_text (Atom n x y z) = text2 2 ++ text4 n ++ text888 x y z ++ (10 ∷ [])
line_text (Exclusion a b) = text2 3 ++ text4 a ++ text4 b ++ (10 ∷ [])
line_text Malformed = []
line_text End = []

-- a line's numbers are those that a sheet can hold
abbrev pub Valid : Line → Type 0
Valid (Header h) = (h.atoms < 2 ^ 16) × (h.ex < 2 ^ 32) × (h.ey < 2 ^ 32) × (h.ez < 2 ^ 32) × (h.mask < 8) × (h.radius < 2 ^ 32)
Valid (Atom n x y z) = (n < 1024) × (x < 2 ^ 32) × (y < 2 ^ 32) × (z < 2 ^ 32)
Valid (Exclusion a b) = (a < 2 ^ 16) × (b < 2 ^ 16)
Valid Malformed = ⊥
Valid End = ⊥

-- one of the three lines
abbrev pub WellFormed : Line → Type 0
WellFormed (Header h) = Unit {0}
WellFormed (Atom n x y z) = Unit {0}
WellFormed (Exclusion a b) = Unit {0}
WellFormed Malformed = ⊥
WellFormed End = ⊥

abbrev pub AllWellFormed : List Line → Type 0
AllWellFormed [] = Unit {0}
AllWellFormed (l ∷ ls) = WellFormed l × AllWellFormed ls

-- a sheet's bytes: those of its lines, one after the other
abbrev pub sheet_text : List Line → List ℕ
sheet_text [] = []
sheet_text (l ∷ ls) = line_text l ++ sheet_text ls

abbrev pub AllValid : List Line → Type 0
AllValid [] = Unit {0}
AllValid (l ∷ ls) = Valid l × AllValid ls

-- ---- whole lines, of bytes alone

-- the bytes hold no newline
abbrev pub Unbroken : List ℕ → Type 0
Unbroken [] = Unit {0}
Unbroken (x ∷ xs) = (x ≡ 10 → ⊥) × Unbroken xs

-- a whole line: bytes with no newline, and a newline
pub record WholeLine (c : List ℕ) : Type 0 where
  pub body : List ℕ
  pub unbroken : Unbroken body
  pub is : c ≡ body ++ (10 ∷ [])

abbrev pub AllWhole : List (List ℕ) → Type 0
AllWhole [] = Unit {0}
AllWhole (c ∷ cs) = WholeLine c × AllWhole cs

-- one after the other
abbrev pub join_all : List (List ℕ) → List ℕ
join_all [] = []
join_all (c ∷ cs) = c ++ join_all cs
