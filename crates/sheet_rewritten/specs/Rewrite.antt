-- The written form of a sheet's text (02, No. 8), whole, and what `rewrite` answers and leaves: one outcome from the entry values alone. Definitions only.
use Rattle.std.specs.Prelude.{Result}
use Rattle.answer.specs.declared.Refusal.{Refusal}
use Rattle.std.specs.Prelude.{ℕ, ◌≡◌, cond, List, length, ltb}
use Rattle.std.proofs.lemmas.List.Edits.{sets}
use Rattle.answer.specs.Seen.{Seen, answered, refused, refused_by, seen}
use Rattle.answer.specs.declared.Refusal.TheVariants.{Lengths}
use Rattle.lists.specs.Lists.{flat}
use Rattle.frame.specs.declared.Frame.{Frame}
use Rattle.frame.specs.Build.{ranges_ok}
use Rattle.sheet_printed.specs.Printed.{refusal_line}
use Rattle.sheet.specs.Reading.{Sound, sheet_of}
use Rattle.sheet.specs.Read.{job_for}
use Rattle.sheet_answer.specs.Solve.{frame_for}
use Rattle.sheet_written.specs.Written.{written_text}

-- the frame of a sound sheet, and its text as `write` has it
unfoldable pub box_of : Sound → Frame
box_of a = frame_for (job_for a.head (length a.rows))

unfoldable pub form_of : Sound → List ℕ
form_of a = written_text (box_of a) a.coords (flat a.rows)

-- refused as by the reader, then 3; a sound sheet passes the writer's other tests
abbrev pub form_text : Seen Sound → List ℕ
form_text (answered a) = cond (ranges_ok (box_of a) a.coords) (form_of a) (refusal_line 3 0)
form_text (refused n p) = refusal_line n p

-- what the program `rewrite` prints; over 65,536 bytes: 1
unfoldable pub rewritten : List ℕ → List ℕ
rewritten s = cond (ltb 65536 (length s)) (refusal_line 1 0) (form_text (sheet_of s))

-- what is shown, and the lent buffer as it is left
pub record Outcome : Type 0 where
  pub shown : Seen ℕ
  pub out : List ℕ

-- 1: out under 43,049 bytes. Else the text stands at the front of out, and past it out stays as it came
unfoldable pub rewrite_of : List ℕ → List ℕ → Outcome
rewrite_of s out =
    cond (ltb (length out) 43049) (record { shown = refused_by Lengths; out = out })
    (record { shown = answered (length (rewritten s)); out = sets out 0 (rewritten s) })

abbrev pub RewriteSays : List ℕ → List ℕ → Result ℕ Refusal → List ℕ → Type 0
RewriteSays s out r out' = record { shown = seen r; out = out' } ≡ rewrite_of s out
