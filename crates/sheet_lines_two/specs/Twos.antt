-- The line that stands at a place of a sheet of the second form (02, No. 9: "header 11 and atom 12, the atom line having species (8 digits) at the end. Exclusions keep 03";
-- No. 10: "a digit pair, 01 or 02, at the end of its header; a header without it still reads as rule 1").
-- A line is what it says in the first form, and one number more: an atom's species, or a header's digit pair, 0 where none is written. Definitions only.
use Rattle.std.specs.Prelude.{ℕ, zero, suc, ◌+◌, ◌^◌, Bool, cond, List, [], ◌∷◌, length, ltb, eqb}
use Rattle.hexadecimal.specs.Digits.{byte_at, hex2, hex4, hex8}
use Rattle.sheet_lines.specs.Reading.{three_at, header_of, atom_of, exclusion_of}
use Rattle.sheet_lines.specs.declared.Head.{Head}
use Rattle.sheet_lines.specs.declared.Line.{Line}
use Rattle.sheet_lines.specs.declared.Line.TheVariants.{Header, Atom, Exclusion, Malformed, End}
use Rattle.sheet_lines_two.specs.declared.TwoLine.{TwoLine}

-- a line without a number more
abbrev pub plain_two : Line → TwoLine
plain_two l = record { core = l; extra = 0 }

-- an atom's line with its species, which is a number of 8 digits
unfoldable pub typed_two : Line → ℕ → TwoLine
typed_two l t = cond (ltb t (2 ^ 32)) (record { core = l; extra = t }) (plain_two Malformed)

-- a header's line with its digit pair, 01 or 02; "9 for another digit pair"
unfoldable pub ruled_two : Line → ℕ → TwoLine
ruled_two l r = cond (eqb r 1) (record { core = l; extra = 1 }) (cond (eqb r 2) (record { core = l; extra = 2 }) (plain_two Malformed))

-- from a place on the newline alone, or a digit pair and the newline; which line that is, by the byte at its end
unfoldable pub end_two : List ℕ → ℕ → (ℕ → Line) → TwoLine
end_two s at f = cond (eqb (byte_at s at) 10) (plain_two (f (byte_at s at))) (ruled_two (f (byte_at s (at + 2))) (hex2 s at))

-- a header: the first form's numbers, then a digit pair or none
unfoldable pub header_two : List ℕ → ℕ → TwoLine
header_two s at = end_two s (at + 40) (λ z. header_of (hex4 s (at + 2)) (three_at s (at + 6)) (hex2 s (at + 30)) (hex8 s (at + 32)) z)

-- the line that starts at a place: 11 a header, 12 an atom, 03 an exclusion; nothing is left at the end
unfoldable pub two_at : List ℕ → ℕ → TwoLine
two_at s at =
    cond (ltb at (length s))
    (cond (eqb (hex2 s at) 17)
    (header_two s at)
    (cond (eqb (hex2 s at) 18)
    (typed_two (atom_of (hex4 s (at + 2)) (three_at s (at + 6)) (byte_at s (at + 38))) (hex8 s (at + 30)))
    (cond (eqb (hex2 s at) 3) (plain_two (exclusion_of (hex4 s (at + 2)) (hex4 s (at + 6)) (byte_at s (at + 10)))) (plain_two Malformed))))
    (plain_two End)

-- how many bytes a line takes, its newline with it
abbrev pub head_wide : ℕ → ℕ
head_wide t = cond (eqb t 0) 41 43

abbrev pub wide_two : Line → ℕ → ℕ
wide_two (Header h) t = head_wide t
wide_two (Atom n x y z) t = 39
wide_two (Exclusion a b) t = 11
wide_two Malformed t = 0
wide_two End t = 0

abbrev pub width_two : TwoLine → ℕ
width_two l = wide_two l.core l.extra

-- the lines from a place on, at most as many as the first argument says. What follows a malformed line is never looked at
abbrev pub twos_from : ℕ → List ℕ → ℕ → List TwoLine
twos_from zero s at = []
twos_from (suc f) s at = cond (ltb at (length s)) (two_at s at ∷ twos_from f s (at + width_two (two_at s at))) []

-- the lines of a sheet: a line takes a byte at least, so there are no more lines than bytes
unfoldable pub twos_of : List ℕ → List TwoLine
twos_of s = twos_from (length s) s 0

-- the rule that a header says: "a header without it still reads as rule 1"
abbrev pub rule_of : ℕ → ℕ
rule_of t = cond (eqb t 0) 1 t

-- a header with its rule where its radius stands
abbrev pub ruled_head : Head → ℕ → Head
ruled_head h r = record { atoms = h.atoms; ex = h.ex; ey = h.ey; ez = h.ez; mask = h.mask; radius = r }

-- an atom's line with its species where its coordinates stand; a header's with its rule where its radius stands
abbrev pub kind_of : Line → ℕ → Line
kind_of (Header h) t = Header (ruled_head h (rule_of t))
kind_of (Atom n x y z) t = Atom n t 0 0
kind_of (Exclusion a b) t = Exclusion a b
kind_of Malformed t = Malformed
kind_of End t = End

-- the line in the first form: with its coordinates and its radius, or with its species and its rule in their place
abbrev pub told_of : Bool → TwoLine → Line
told_of kinds l = cond kinds (kind_of l.core l.extra) l.core
