-- From bytes to numbers: lowercase hexadecimal numbers of 2, 4 and 8 digits, as 01's "Job sheet" has them. Definitions only.
use Rattle.std.specs.Prelude.{Option, Some, None, ℕ, ◌+◌, ◌-◌, ◌*◌, cond, List, get_or, ltb}

-- the byte at a place; past the end 0, which is neither a digit nor a newline
abbrev pub byte_at : List ℕ → ℕ → ℕ
byte_at s i = get_or s i 0

-- the value of a lowercase hexadecimal digit, 0 to 9 or a to f; 16 for any other byte
unfoldable pub digit_of : ℕ → ℕ
digit_of b = cond (ltb b 48) 16 (cond (ltb b 58) (b - 48) (cond (ltb b 97) 16 (cond (ltb b 103) (b - 87) 16)))

-- a number of two halves, each below the base; the base's square where one of them is none
unfoldable pub joined : ℕ → ℕ → ℕ → ℕ
joined base hi lo = cond (ltb hi base) (cond (ltb lo base) (hi * base + lo) (base * base)) (base * base)

-- the number of 2, 4, 8 digits that starts at a place; 16 ^ 2, 16 ^ 4, 16 ^ 8 where one of the bytes is no digit
unfoldable pub hex2 : List ℕ → ℕ → ℕ
hex2 s at = joined 16 (digit_of (byte_at s at)) (digit_of (byte_at s (at + 1)))

unfoldable pub hex4 : List ℕ → ℕ → ℕ
hex4 s at = joined 256 (hex2 s at) (hex2 s (at + 2))

unfoldable pub hex8 : List ℕ → ℕ → ℕ
hex8 s at = joined 65536 (hex4 s at) (hex4 s (at + 4))

-- what a reader answers, with a number past those of its width where none stands there
abbrev pub number_or : ℕ → Option ℕ → ℕ
number_or past (Some n) = n
number_or past None = past

-- the same, told by the number: none for the one past those of its width, and past it
abbrev pub number_at : ℕ → ℕ → Option ℕ
number_at past n = cond (ltb n past) (Some n) None
