-- A sheet as a whole (01, "Job sheet"): its lines in turn, each tested for 9, 10 and 8, then 11, 2, 4, 11. Definitions only.
use Rattle.std.specs.Prelude.{ℕ, suc, ◌+◌, ◌*◌, cond, List, [], ◌∷◌, take, drop, replicate, ltb, eqb}
use Rattle.std.proofs.Math.Option.{Option, none, some}
use Rattle.answer.specs.Seen.{Seen, answered, refused, refused_by, no_header}
use Rattle.answer.specs.declared.Refusal.{Refusal}
use Rattle.answer.specs.declared.Refusal.TheVariants as refusal
use Rattle.sheet_lines.specs.Reading.{lines_of}
use Rattle.sheet_lines.specs.declared.Head.{Head}
use Rattle.sheet_lines.specs.declared.Line.{Line}
use Rattle.sheet_lines.specs.declared.Line.TheVariants.{Header, Atom, Exclusion, Malformed, End}
use Rattle.sheet.specs.Meaning.{Meaning, acted, act_of}

-- the refusal of a line, the n-th, that does not act: 9, 10, or 8 at place capacity + 1
abbrev pub refusal_for : Line → ℕ → Refusal
refusal_for (Header h) n = refusal.Again n
refusal_for (Atom k x y z) n = refusal.Again n
refusal_for (Exclusion a b) n = refusal.Room 1025
refusal_for Malformed n = refusal.Malformed n
refusal_for End n = refusal.Malformed n

abbrev pub onward : Option Meaning → Refusal → (Meaning → Seen Meaning) → Seen Meaning
onward none r f = refused_by r
onward (some m) r f = f m

-- the lines in turn, after n others
abbrev pub run : List Line → ℕ → Meaning → Seen Meaning
run [] n m = answered m
run (l ∷ ls) n m = onward (acted (act_of l) m) (refusal_for l (n + 1)) (λ m'. run ls (n + 1) m')

-- nothing read: no header, 1,024 atom numbers without a line, no exclusions
abbrev pub blank : Meaning
blank = record { header = none; atoms = record { coords = replicate 3072 0; marks = replicate 1024 0 }; rows = [] }

-- how many marks at the front of a list are v
abbrev pub lead_of : ℕ → List ℕ → ℕ
lead_of v [] = 0
lead_of v (x ∷ xs) = cond (eqb x v) (suc (lead_of v xs)) 0

-- the lowest marked number not below the count, or 1,024; and the lowest number that is not marked
unfoldable pub stray_of : ℕ → List ℕ → ℕ
stray_of atoms marks = atoms + lead_of 0 (drop atoms marks)

unfoldable pub unmarked_of : List ℕ → ℕ
unmarked_of marks = lead_of 1 marks

-- "Then: header (11), over 1,024 atoms (2), lowest atom number not below the count (4, place that number), absent atom (11)"; the header where all is well
unfoldable pub counted : Head → List ℕ → Seen Head
counted h marks =
    cond (ltb 1024 h.atoms) (refused_by (refusal.TooMany h.atoms))
    (cond (ltb (stray_of h.atoms marks) 1024) (refused_by (refusal.NotThere (stray_of h.atoms marks)))
    (cond (ltb (unmarked_of marks) h.atoms) (refused_by (refusal.Absent (unmarked_of marks))) (answered h)))

abbrev pub tested : Option Head → List ℕ → Seen Head
tested none marks = refused_by (refusal.Absent no_header)
tested (some h) marks = counted h marks

-- a sound sheet: its header, the coordinates of its atoms by number, and its exclusions
pub record Sound : Type 0 where
  pub head : Head
  pub coords : List ℕ
  pub rows : List (ℕ × ℕ)

abbrev pub sound_with : Seen Head → Meaning → Seen Sound
sound_with (answered h) m = answered (record { head = h; coords = take (3 * h.atoms) m.atoms.coords; rows = m.rows })
sound_with (refused n p) m = refused n p

abbrev pub then_tested : Seen Meaning → Seen Sound
then_tested (answered m) = sound_with (tested m.header m.atoms.marks) m
then_tested (refused n p) = refused n p

-- what a sheet comes to
unfoldable pub sheet_of : List ℕ → Seen Sound
sheet_of s = then_tested (run (lines_of s) 0 blank)
