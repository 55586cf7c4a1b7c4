-- What a move gives where there is room for every sheet: a text or a refusal, and no 8 of the writer's. Definitions only.
use Rattle.std.specs.Prelude.{Err, Ok, Result}
use Rattle.answer.specs.declared.Refusal.{Refusal}
use Rattle.std.specs.Prelude.{ℕ, ◌≤◌, ◌≡◌, cond, List, length, ltb, eqb}
use Rattle.std.proofs.lemmas.List.Edits.{sets}
use Rattle.answer.specs.Seen.{Seen, answered, refused, refused_by}
use Rattle.answer.specs.declared.Refusal.TheVariants.{Lengths}
use Rattle.lists.specs.Lists.{flat}
use Rattle.sheet.specs.Reading.{lead_of, Sound, sheet_of}
use Rattle.sheet.specs.ReadTwo.{SoundTwo, sheet_two}
use Rattle.sheet_written.specs.Written.{written_text}
use Rattle.sheet_written.specs.WrittenTwo.{written_two}
use Rattle.sheet_written.specs.Write.{Outcome, write_asked}
use Rattle.sheet_rewritten.specs.Rewrite.{box_of}
use Rattle.sheet_moved.specs.Moved.{at_rule, to_one_of, to_two_of}

-- the text where the writer's tests pass
abbrev pub seen_text : Result (Unit {0}) Refusal → List ℕ → Seen (List ℕ)
seen_text (Err r) text = refused_by r
seen_text (Ok tt) text = answered text

abbrev pub forth_text : Seen Sound → Seen (List ℕ)
forth_text (answered a) = seen_text (write_asked (box_of a) a.coords (flat a.rows)) (written_two (box_of a) a.coords (flat a.rows))
forth_text (refused n p) = refused n p

-- the sheet in the second form; 1: over 65,536 bytes
unfoldable pub moved_two : List ℕ → Seen (List ℕ)
moved_two s = cond (ltb 65536 (length s)) (refused_by Lengths) (forth_text (sheet_of s))

abbrev pub back_text : Seen SoundTwo → Seen (List ℕ)
back_text (answered a) =
    cond (eqb a.rule 1)
    (cond (ltb (lead_of 0 a.species) a.sound.head.atoms) (refused 12 (lead_of 0 a.species))
    (seen_text (write_asked (box_of a.sound) a.sound.coords (flat a.sound.rows)) (written_text (box_of a.sound) a.sound.coords (flat a.sound.rows))))
    (refused 12 at_rule)
back_text (refused n p) = refused n p

-- the sheet in the first form
unfoldable pub moved_one : List ℕ → Seen (List ℕ)
moved_one s = cond (ltb 65536 (length s)) (refused_by Lengths) (back_text (sheet_two s))

-- a text at the front of the buffer, past it as it came; a refusal leaves all of it
abbrev pub laid_whole : Seen (List ℕ) → List ℕ → Outcome
laid_whole (answered text) out = record { shown = answered (length text); out = sets out 0 text }
laid_whole (refused n p) out = record { shown = refused n p; out = out }

-- THEOREMS, of every input (proofs/Whole.antt): with a header of 43 bytes, 1,024 atoms of 39 and 1,024 exclusions of 11 no sheet of the second form is longer than what
-- `to_two` is lent, nor one of the first than what `to_one` is lent: what each gives doesn't ask how long the buffer is.
abbrev pub TwoWhole : (s out : List ℕ) → Type 0
TwoWhole s out = 51243 ≤ length out → to_two_of s out ≡ laid_whole (moved_two s) out

abbrev pub OneWhole : (s out : List ℕ) → Type 0
OneWhole s out = 43049 ≤ length out → to_one_of s out ≡ laid_whole (moved_one s) out
