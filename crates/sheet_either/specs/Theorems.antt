-- THEOREMS (02, No. 9 and 10) about what `read_either` answers and leaves. proofs/Forms.antt proves them of every input. Definitions only.
use Rattle.std.specs.Prelude.{ℕ, ◌+◌, ◌≤◌, ◌<◌, ◌≡◌, length, replicate}
use mathlib.Core.List.{List, Perm}
use Rattle.std.proofs.lemmas.List.Edits.{sets}
use Rattle.answer.specs.Seen.{answered}
use Rattle.hexadecimal.specs.Digits.{byte_at, hex2}
use Rattle.sheet_lines.specs.Grammar.{AllWhole, join_all}
use Rattle.sheet_lines.specs.Reading.{line_at}
use Rattle.sheet_lines.specs.declared.Line.TheVariants.{Malformed}
use Rattle.sheet_lines_two.specs.Twos.{plain_two, two_at}
use Rattle.sheet.specs.declared.Job.{Job}
use Rattle.sheet.specs.declared.two.RuledJob.{RuledJob}
use Rattle.sheet.specs.Read as one
use Rattle.sheet.specs.ReadTwo.{read_two_of}
use Rattle.sheet_either.specs.declared.Formed.{Formed}
use Rattle.sheet_either.specs.Either.{as_two, either_of}

-- A sheet that `read` accepts is of the first form, and the new reader has the old reading, with species 0 for each atom and rule 1.
abbrev pub FirstForm : (s co sp ex : List ℕ) → Type 0
FirstForm s co sp ex =
    1024 ≤ length sp → (j : Job) → (one.read_of s co ex).shown ≡ answered j
    → either_of s co sp ex ≡ record { shown = answered (record { job = j; form = 1; rule = 1 }); coordinates = (one.read_of s co ex).coordinates; species = sets sp 0 (replicate j.atoms 0); exclusions = (one.read_of s co ex).exclusions }

-- A sheet that the second form's reader accepts is of the second form, and the new reader has that reading.
abbrev pub SecondForm : (s co sp ex : List ℕ) → Type 0
SecondForm s co sp ex = (j : RuledJob) → (read_two_of s co sp ex).shown ≡ answered j → either_of s co sp ex ≡ as_two (read_two_of s co sp ex)

-- "each line of the other form is malformed": 11 and 12 to the first form's reader, 01 and 02 to the second's. So a mixed sheet is refused, 9, at the first line of the form that
-- didn't come first, if not before.
pub record OtherForm (s : List ℕ) (at : ℕ) : Type 0 where
  pub header_two : hex2 s at ≡ 17 → line_at s at ≡ Malformed
  pub atom_two : hex2 s at ≡ 18 → line_at s at ≡ Malformed
  pub header_one : hex2 s at ≡ 1 → two_at s at ≡ plain_two Malformed
  pub atom_one : hex2 s at ≡ 2 → two_at s at ≡ plain_two Malformed
  -- No. 10: "9 for another digit pair"
  pub other_pair : hex2 s at ≡ 17 → (byte_at s (at + 40) ≡ 10 → ⊥) → (hex2 s (at + 40) ≡ 1 → ⊥) → (hex2 s (at + 40) ≡ 2 → ⊥) → two_at s at ≡ plain_two Malformed

abbrev pub OtherMalformed : List ℕ → ℕ → Type 0
OtherMalformed s at = at < length s → OtherForm s at

-- The rule that is answered is 1 or 2: with the first form 1, with the second what the header's line says (`HeaderSaysRule` in sheet/specs/Theorems).
abbrev pub RuleAnswered : (s co sp ex : List ℕ) → Type 0
RuleAnswered s co sp ex =
    (f : Formed) → (either_of s co sp ex).shown ≡ answered f → (f.form ≡ 1 → f.rule ≡ 1) × (1 ≤ f.rule) × (f.rule ≤ 2)

-- "Demand 2's line order covers accepted sheets of each form": whole lines of an accepted sheet in another order are read alike.
abbrev pub EitherInAnyOrder : (s co sp ex : List ℕ) → Type 0
EitherInAnyOrder s co sp ex =
    (f : Formed) → (either_of s co sp ex).shown ≡ answered f → (cs ds : List (List ℕ)) → AllWhole cs → s ≡ join_all cs → Perm cs ds → either_of (join_all ds) co sp ex ≡ either_of s co sp ex
