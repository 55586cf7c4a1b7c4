-- The line that stands at a place of a sheet (01, "Job sheet"): which bytes are read as which line. Definitions only.
use Rattle.std.specs.Prelude.{None, Option, Some}
use Rattle.std.specs.Prelude.{ℕ, zero, suc, ◌+◌, ◌^◌, cond, List, [], ◌∷◌, length, ltb, eqb}
use Rattle.hexadecimal.specs.Digits.{byte_at, hex2, hex4, hex8}
use Rattle.sheet_lines.specs.declared.Line.{Line}
use Rattle.sheet_lines.specs.declared.Line.TheVariants.{Header, Atom, Exclusion, Malformed, End}

-- three numbers of 8 digits: each a number, and no mark of a digit that is none
unfoldable pub three_of : ℕ → ℕ → ℕ → Option (ℕ × ℕ × ℕ)
three_of x y z = cond (ltb x (2 ^ 32)) (cond (ltb y (2 ^ 32)) (cond (ltb z (2 ^ 32)) (Some (x, y, z)) None) None) None

unfoldable pub three_at : List ℕ → ℕ → Option (ℕ × ℕ × ℕ)
three_at s at = three_of (hex8 s at) (hex8 s (at + 8)) (hex8 s (at + 16))

-- header: atoms (4 digits), edges, periodic mask 00 to 07, radius (8), newline
unfoldable pub header_of : ℕ → Option (ℕ × ℕ × ℕ) → ℕ → ℕ → ℕ → Line
header_of atoms None mask radius end = Malformed
header_of atoms (Some (x, y, z)) mask radius end =
    cond (ltb atoms (2 ^ 16))
    (cond (ltb mask 8)
    (cond (ltb radius (2 ^ 32))
    (cond (eqb end 10)
    (Header (record { atoms = atoms; ex = x; ey = y; ez = z; mask = mask; radius = radius }))
    Malformed)
    Malformed)
    Malformed)
    Malformed

-- atom: number (4 digits, below 1,024), place, newline
unfoldable pub atom_of : ℕ → Option (ℕ × ℕ × ℕ) → ℕ → Line
atom_of number None end = Malformed
atom_of number (Some (x, y, z)) end = cond (ltb number 1024) (cond (eqb end 10) (Atom number x y z) Malformed) Malformed

-- exclusion: two numbers (4 digits each), newline
unfoldable pub exclusion_of : ℕ → ℕ → ℕ → Line
exclusion_of a b end =
    cond (ltb a (2 ^ 16)) (cond (ltb b (2 ^ 16)) (cond (eqb end 10) (Exclusion a b) Malformed) Malformed) Malformed

-- the line that starts at a place: 01 a header, 02 an atom, 03 an exclusion; nothing is left at the end
unfoldable pub line_at : List ℕ → ℕ → Line
line_at s at =
    cond (ltb at (length s))
    (cond (eqb (hex2 s at) 1)
    (header_of (hex4 s (at + 2)) (three_at s (at + 6)) (hex2 s (at + 30)) (hex8 s (at + 32)) (byte_at s (at + 40)))
    (cond (eqb (hex2 s at) 2)
    (atom_of (hex4 s (at + 2)) (three_at s (at + 6)) (byte_at s (at + 30)))
    (cond (eqb (hex2 s at) 3) (exclusion_of (hex4 s (at + 2)) (hex4 s (at + 6)) (byte_at s (at + 10))) Malformed)))
    End

-- how many bytes a line takes, its newline with it
abbrev pub line_width : Line → ℕ
line_width (Header h) = 41
line_width (Atom n x y z) = 31
line_width (Exclusion a b) = 11
line_width Malformed = 0
line_width End = 0

-- the lines from a place on, at most as many as the first argument says. What follows a malformed line is never looked at
abbrev pub lines_from : ℕ → List ℕ → ℕ → List Line
lines_from zero s at = []
lines_from (suc f) s at = cond (ltb at (length s)) (line_at s at ∷ lines_from f s (at + line_width (line_at s at))) []

-- the lines of a sheet: a line takes a byte at least, so there are no more lines than bytes
unfoldable pub lines_of : List ℕ → List Line
lines_of s = lines_from (length s) s 0
