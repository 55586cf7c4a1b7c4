-- What the program prints for an input, whole, and what `solve` answers and leaves: one outcome from the entry values alone. Definitions only.
use Rattle.std.specs.Prelude.{Result}
use Rattle.answer.specs.declared.Refusal.{Refusal}
use Rattle.std.specs.Prelude.{ℕ, ◌≤◌, ◌≡◌, cond, List, length, take, replicate, ltb}
use Rattle.std.proofs.lemmas.List.Edits.{sets}
use Rattle.answer.specs.Seen.{Seen, answered, refused, refused_by, seen}
use Rattle.answer.specs.declared.Refusal.TheVariants.{Lengths}
use Rattle.lists.specs.Lists.{rows, flat}
use Rattle.frame.specs.declared.Frame.{Frame}
use Rattle.frame.specs.declared.Built.{Built}
use Rattle.frame.specs.Build.{Given, build_of}
use Rattle.sheet_printed.specs.Printed.{refusal_line, built_text}
use Rattle.sheet.specs.declared.Job.{Job}
use Rattle.sheet.specs.Reading.{Sound, sheet_of}
use Rattle.sheet.specs.Read.{job_for}

-- the box of a sheet
unfoldable pub frame_for : Job → Frame
frame_for j =
    record {
      x = record { edge = j.ex; round = j.px };
      y = record { edge = j.ey; round = j.py };
      z = record { edge = j.ez; round = j.pz };
      radius = j.radius;
    }

-- "lends 8,192 pairs and 16,384 starts": two numbers a pair; an item for each atom that a sheet can have
unfoldable pub given_for : Job → List ℕ → List ℕ → Given
given_for j coordinates exclusions =
    record {
      frame = frame_for j;
      coordinates = coordinates;
      exclusions = exclusions;
      pairs = replicate 16384 0;
      starts = replicate 16384 0;
      items = replicate 1024 0;
    }

-- the text of a build's answer, with the pairs in the order in which they are stored
abbrev pub shown_text : Seen Built → List ℕ → List ℕ
shown_text (answered c) pairs = built_text c.pairs c.checks c.fallback (take c.pairs (rows pairs))
shown_text (refused n p) pairs = refusal_line n p

unfoldable pub job_text : Job → List ℕ → List ℕ → List ℕ
job_text j coordinates exclusions =
    shown_text (build_of (given_for j coordinates exclusions)).answer (build_of (given_for j coordinates exclusions)).pairs

-- the text of a sheet: its refusal, or its pair list
abbrev pub answer_text : Seen Sound → List ℕ
answer_text (answered a) = job_text (job_for a.head (length a.rows)) a.coords (flat a.rows)
answer_text (refused n p) = refusal_line n p

-- what the program prints; over 65,536 bytes: 1
unfoldable pub printed : List ℕ → List ℕ
printed s = cond (ltb 65536 (length s)) (refusal_line 1 0) (answer_text (sheet_of s))

-- what is shown, and the lent buffer as it is left
pub record Outcome : Type 0 where
  pub shown : Seen ℕ
  pub out : List ℕ

-- 1: out under 90,133 bytes. Else the text stands at the front of out, and past it out stays as it came
unfoldable pub solve_of : List ℕ → List ℕ → Outcome
solve_of s out =
    cond (ltb (length out) 90133) (record { shown = refused_by Lengths; out = out })
    (record { shown = answered (length (printed s)); out = sets out 0 (printed s) })

abbrev pub SolveSays : List ℕ → List ℕ → Result ℕ Refusal → List ℕ → Type 0
SolveSays s out r out' = record { shown = seen r; out = out' } ≡ solve_of s out

-- The first n bytes are the whole text, and no sheet's text is longer than 90,133 bytes: a count line of 21 and 8,192 lines of 11. So nothing is ever cut off.
pub record Fits (s : List ℕ) (n : ℕ) (out' : List ℕ) : Type 0 where
  pub most : n ≤ 90133
  pub room : n ≤ length out'
  pub text : take n out' ≡ printed s

-- after an answered call
abbrev pub SolveFits : List ℕ → Result ℕ Refusal → List ℕ → Type 0
SolveFits s r out' = (n : ℕ) → seen r ≡ answered n → Fits s n out'
