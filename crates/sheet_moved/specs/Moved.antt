-- What a move between the forms answers, and what it leaves in the lent buffer (02, No. 9 and 10): one outcome from the entry values alone. Definitions only.
use Rattle.std.specs.Prelude.{Err, Ok, Result}
use Rattle.answer.specs.declared.Refusal.{Refusal}
use Rattle.std.specs.Prelude.{ℕ, ◌≡◌, cond, List, length, ltb, eqb}
use Rattle.answer.specs.Seen.{Seen, answered, refused, refused_by, seen}
use Rattle.answer.specs.declared.Refusal.TheVariants.{Lengths}
use Rattle.lists.specs.Lists.{flat}
use Rattle.sheet.specs.Reading.{lead_of, Sound, sheet_of}
use Rattle.sheet.specs.ReadTwo.{SoundTwo, sheet_two}
use Rattle.sheet_written.specs.Write.{Outcome, write_of}
use Rattle.sheet_written.specs.WrittenTwo.{write_two_of}
use Rattle.sheet_rewritten.specs.Rewrite.{box_of}
use Rattle.sheet_moved.specs.declared.MoveError.{MoveError}
use Rattle.sheet_moved.specs.declared.MoveError.TheVariants.{Refused, NoWayBack}

-- "12 with place ffffffff for rule 2 going back, tested before species"
abbrev pub at_rule : ℕ
at_rule = 0xffff_ffff

-- "Going back is possible exactly when every species is 0": else 12, "place the lowest such atom, after the reader's up to the absent atom, before the writer's"
abbrev pub untyped_back : SoundTwo → List ℕ → Outcome
untyped_back a out =
    cond (ltb (lead_of 0 a.species) a.sound.head.atoms) (record { shown = refused 12 (lead_of 0 a.species); out = out })
    (write_of (box_of a.sound) a.sound.coords (flat a.sound.rows) out)

-- "Moving back to sheet one needs rule 1"
abbrev pub back : Seen SoundTwo → List ℕ → Outcome
back (answered a) out = cond (eqb a.rule 1) (untyped_back a out) (record { shown = refused 12 at_rule; out = out })
back (refused n p) out = record { shown = refused n p; out = out }

-- 1: over 65,536 bytes
unfoldable pub to_one_of : List ℕ → List ℕ → Outcome
to_one_of s out = cond (ltb 65536 (length s)) (record { shown = refused_by Lengths; out = out }) (back (sheet_two s) out)

abbrev pub seen_moved : Result ℕ MoveError → Seen ℕ
seen_moved (Ok n) = answered n
seen_moved (Err (Refused r)) = refused_by r
seen_moved (Err (NoWayBack k)) = refused 12 k

abbrev pub ToOneSays : List ℕ → List ℕ → Result ℕ MoveError → List ℕ → Type 0
ToOneSays s out r out' = record { shown = seen_moved r; out = out' } ≡ to_one_of s out

-- "the move from the first form (species 0)", which means rule 1: refused as by the first form's reader, to which each line of the other form is malformed, then by the writer
abbrev pub forth : Seen Sound → List ℕ → Outcome
forth (answered a) out = write_two_of (box_of a) a.coords (flat a.rows) out
forth (refused n p) out = record { shown = refused n p; out = out }

-- 1: over 65,536 bytes
unfoldable pub to_two_of : List ℕ → List ℕ → Outcome
to_two_of s out = cond (ltb 65536 (length s)) (record { shown = refused_by Lengths; out = out }) (forth (sheet_of s) out)

abbrev pub ToTwoSays : List ℕ → List ℕ → Result ℕ Refusal → List ℕ → Type 0
ToTwoSays s out r out' = record { shown = seen r; out = out' } ≡ to_two_of s out
