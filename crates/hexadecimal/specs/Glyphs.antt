-- From numbers to bytes: the last 2, 4 and 8 lowercase hexadecimal digits of a number, and what it means that bytes stand at a place. Definitions only.
use Rattle.std.specs.Prelude.{ℕ, ◌+◌, ◌/◌, ◌%◌, ◌≡◌, cond, List, [], ◌∷◌, ◌++◌, ltb}
use Rattle.hexadecimal.specs.Digits.{byte_at}

-- the digit of a number below 16
abbrev pub glyph_of : ℕ → ℕ
glyph_of d = cond (ltb d 10) (48 + d) (87 + d)

-- the last 2, 4, 8 digits of a number
unfoldable pub text2 : ℕ → List ℕ
text2 n = glyph_of (n / 16 % 16) ∷ (glyph_of (n % 16) ∷ [])

unfoldable pub text4 : ℕ → List ℕ
text4 n = text2 (n / 256) ++ text2 (n % 256)

unfoldable pub text8 : ℕ → List ℕ
text8 n = text4 (n / 65536) ++ text4 (n % 65536)

-- these bytes stand at a place of s
abbrev pub Stands : List ℕ → ℕ → List ℕ → Type 0
Stands s at [] = Unit {0}
Stands s at (x ∷ xs) = (byte_at s at ≡ x) × Stands s (at + 1) xs
