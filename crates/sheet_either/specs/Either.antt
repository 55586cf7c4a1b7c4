-- What `read_either` answers and leaves (02, No. 9 and 10: "The new reader takes either form; a mixed sheet is malformed at the first line of the form that didn't come first").
-- The first header or atom line says which form's reader reads the sheet; to it each line of the other form is malformed. Definitions only.
use Rattle.std.specs.Prelude.{Result}
use Rattle.answer.specs.declared.Refusal.{Refusal}
use Rattle.std.specs.Prelude.{ℕ, ◌≡◌, Bool, true, false, cond, List, [], ◌∷◌, length, replicate, ltb}
use Rattle.std.proofs.lemmas.List.Edits.{sets}
use Rattle.answer.specs.Seen.{Seen, answered, refused, refused_by, seen}
use Rattle.answer.specs.declared.Refusal.TheVariants.{Lengths}
use Rattle.sheet_lines.specs.declared.Line.{Line}
use Rattle.sheet_lines.specs.declared.Line.TheVariants.{Header, Atom, Exclusion, Malformed, End}
use Rattle.sheet_lines_two.specs.declared.TwoLine.{TwoLine}
use Rattle.sheet_lines_two.specs.Twos.{twos_of}
use Rattle.sheet.specs.declared.Job.{Job}
use Rattle.sheet.specs.declared.two.RuledJob.{RuledJob}
use Rattle.sheet.specs.Read as one
use Rattle.sheet.specs.ReadTwo.{OutcomeTwo, read_two_of}
use Rattle.sheet_either.specs.declared.Formed.{Formed}

-- read as the second form, the first line that is no exclusion is a header or an atom; exclusions belong to both forms
abbrev pub says_two : Line → Bool → Bool
says_two (Header h) rest = true
says_two (Atom n x y z) rest = true
says_two (Exclusion a b) rest = rest
says_two Malformed rest = false
says_two End rest = false

abbrev pub is_two : List TwoLine → Bool
is_two [] = false
is_two (l ∷ ls) = says_two l.core (is_two ls)

-- an answer with its form and its rule; "Sheet one means rule 1"
abbrev pub formed_one : Seen Job → Seen Formed
formed_one (answered j) = answered (record { job = j; form = 1; rule = 1 })
formed_one (refused n p) = refused n p

abbrev pub formed_two : Seen RuledJob → Seen Formed
formed_two (answered r) = answered (record { job = r.job; form = 2; rule = r.rule })
formed_two (refused n p) = refused n p

-- what is shown, and the three lent rooms as they are left
pub record Outcome : Type 0 where
  pub shown : Seen Formed
  pub coordinates : List ℕ
  pub species : List ℕ
  pub exclusions : List ℕ

abbrev pub as_two : OutcomeTwo → Outcome
as_two o = record { shown = formed_two o.shown; coordinates = o.coordinates; species = o.species; exclusions = o.exclusions }

-- on a sheet of the first form each atom has species 0
abbrev pub zeroed : Seen Job → List ℕ → List ℕ
zeroed (answered j) sp = sets sp 0 (replicate j.atoms 0)
zeroed (refused n p) sp = sp

abbrev pub as_one : one.Outcome → List ℕ → Outcome
as_one o sp =
    record { shown = formed_one o.shown; coordinates = o.coordinates; species = zeroed o.shown sp; exclusions = o.exclusions }

-- 1: a species room under 1,024, else as the form's reader has it
unfoldable pub either_of : List ℕ → List ℕ → List ℕ → List ℕ → Outcome
either_of s co sp ex =
    cond (ltb (length sp) 1024) (record { shown = refused_by Lengths; coordinates = co; species = sp; exclusions = ex })
    (cond (is_two (twos_of s)) (as_two (read_two_of s co sp ex)) (as_one (one.read_of s co ex) sp))

abbrev pub EitherSays : List ℕ → List ℕ → List ℕ → List ℕ → Result Formed Refusal → List ℕ → List ℕ → List ℕ → Type 0
EitherSays s co sp ex r co' sp' ex' =
    record { shown = seen r; coordinates = co'; species = sp'; exclusions = ex' } ≡ either_of s co sp ex
