-- What the program `pairs_either` prints for a sheet of either form (02, No. 9 and 10), whole, and what `solve_either` answers and leaves: as `solve` for a sheet of the first form, and
-- for one of the second form as for what it says in the first; species and rule don't enter it. Definitions only.
use Rattle.std.specs.Prelude.{Result}
use Rattle.answer.specs.declared.Refusal.{Refusal}
use Rattle.sheet_answer.specs.declared.SheetList.{SheetList}
use Rattle.std.specs.Prelude.{ℕ, ◌≤◌, ◌≡◌, cond, List, length, take, ltb}
use Rattle.std.proofs.lemmas.List.Edits.{sets}
use Rattle.answer.specs.Seen.{Seen, answered, refused, refused_by, seen}
use Rattle.answer.specs.declared.Refusal.TheVariants.{Lengths}
use Rattle.sheet_lines_two.specs.Twos.{twos_of}
use Rattle.sheet_printed.specs.Printed.{refusal_line}
use Rattle.sheet.specs.Reading.{Sound, sheet_of}
use Rattle.sheet.specs.ReadTwo.{SoundTwo, sheet_two}
use Rattle.sheet_either.specs.Either.{is_two}
use Rattle.sheet_answer.specs.Solve.{Outcome, answer_text}
use Rattle.sheet_answer.specs.List.{ListOutcome, list_for}

-- without its species and its rule
abbrev pub untyped : Seen SoundTwo → Seen Sound
untyped (answered a) = answered a.sound
untyped (refused n p) = refused n p

-- what a sheet of either form comes to
unfoldable pub either_sound : List ℕ → Seen Sound
either_sound s = cond (is_two (twos_of s)) (untyped (sheet_two s)) (sheet_of s)

-- the list of a sheet, as `sheetListOf` has it
unfoldable pub either_list_of : List ℕ → List ℕ → ListOutcome
either_list_of s pairs = cond (ltb 65536 (length s)) (record { shown = refused_by Lengths; pairs = pairs }) (list_for (either_sound s) pairs)

abbrev pub EitherListSays : List ℕ → List ℕ → Result SheetList Refusal → List ℕ → Type 0
EitherListSays s pairs r pairs' = record { shown = seen r; pairs = pairs' } ≡ either_list_of s pairs

-- what the program prints; over 65,536 bytes: 1
unfoldable pub printed_either : List ℕ → List ℕ
printed_either s = cond (ltb 65536 (length s)) (refusal_line 1 0) (answer_text (either_sound s))

-- 1: out under 90,133 bytes. Else the text stands at the front of out, and past it out stays as it came
unfoldable pub solve_either_of : List ℕ → List ℕ → Outcome
solve_either_of s out =
    cond (ltb (length out) 90133) (record { shown = refused_by Lengths; out = out })
    (record { shown = answered (length (printed_either s)); out = sets out 0 (printed_either s) })

abbrev pub SolveEitherSays : List ℕ → List ℕ → Result ℕ Refusal → List ℕ → Type 0
SolveEitherSays s out r out' = record { shown = seen r; out = out' } ≡ solve_either_of s out

-- after an answered call the first n bytes are the whole text: nothing is ever cut off
pub record FitsEither (s : List ℕ) (n : ℕ) (out' : List ℕ) : Type 0 where
  pub most : n ≤ 90133
  pub room : n ≤ length out'
  pub text : take n out' ≡ printed_either s

abbrev pub EitherFits : List ℕ → Result ℕ Refusal → List ℕ → Type 0
EitherFits s r out' = (n : ℕ) → seen r ≡ answered n → FitsEither s n out'
