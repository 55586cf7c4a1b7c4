-- What the public call `read` answers, and what it leaves in what is lent: one outcome from the entry values alone. Definitions only.
use Rattle.std.specs.Prelude.{Result}
use Rattle.answer.specs.declared.Refusal.{Refusal}
use Rattle.std.specs.Prelude.{ℕ, ◌/◌, ◌%◌, ◌≡◌, cond, List, length, ltb, eqb}
use Rattle.std.proofs.lemmas.List.Edits.{sets}
use Rattle.answer.specs.Seen.{Seen, answered, refused, refused_by, seen}
use Rattle.answer.specs.declared.Refusal.TheVariants.{Lengths}
use Rattle.lists.specs.Lists.{flat}
use Rattle.sheet_lines.specs.declared.Head.{Head}
use Rattle.sheet.specs.Reading.{Sound, sheet_of}
use Rattle.sheet.specs.declared.Job.{Job}

-- the header's numbers; of the mask x is bit 0, y bit 1, z bit 2
unfoldable pub job_for : Head → ℕ → Job
job_for h count =
    record {
      atoms = h.atoms;
      ex = h.ex;
      ey = h.ey;
      ez = h.ez;
      px = eqb (h.mask % 2) 1;
      py = eqb (h.mask / 2 % 2) 1;
      pz = eqb (h.mask / 4 % 2) 1;
      radius = h.radius;
      count = count;
    }

-- what is shown, and the two lent rooms as they are left
pub record Outcome : Type 0 where
  pub shown : Seen Job
  pub coordinates : List ℕ
  pub exclusions : List ℕ

-- answered: the first 3 × atoms and the first 2 × count numbers are written, nothing else; refused: nothing
abbrev pub handed : Seen Sound → List ℕ → List ℕ → Outcome
handed (answered a) co ex =
    record { shown = answered (job_for a.head (length a.rows)); coordinates = sets co 0 a.coords; exclusions = sets ex 0 (flat a.rows) }
handed (refused n p) co ex = record { shown = refused n p; coordinates = co; exclusions = ex }

-- 1: over 65,536 bytes, or rooms under 3,072 and 2,048
unfoldable pub read_of : List ℕ → List ℕ → List ℕ → Outcome
read_of s co ex =
    cond (ltb 65536 (length s)) (handed (refused_by Lengths) co ex)
    (cond (ltb (length co) 3072) (handed (refused_by Lengths) co ex)
    (cond (ltb (length ex) 2048) (handed (refused_by Lengths) co ex) (handed (sheet_of s) co ex)))

abbrev pub ReadSays : List ℕ → List ℕ → List ℕ → Result Job Refusal → List ℕ → List ℕ → Type 0
ReadSays s co ex r co' ex' = record { shown = seen r; coordinates = co'; exclusions = ex' } ≡ read_of s co ex
