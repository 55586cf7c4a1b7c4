-- The list of a sheet, built into lent pairs: its numbers or its refusal, and what the pairs hold then; one outcome from the entry values alone.
-- Definitions only.
use Rattle.std.specs.Prelude.{Result}
use Rattle.answer.specs.declared.Refusal.{Refusal}
use Rattle.sheet_answer.specs.declared.SheetList.{SheetList}
use Rattle.std.specs.Prelude.{ℕ, ◌*◌, ◌≤◌, ◌≡◌, cond, List, length, take, replicate, ltb}
use Rattle.answer.specs.Seen.{Seen, answered, refused, refused_by, seen}
use Rattle.answer.specs.declared.Refusal.TheVariants.{Lengths}
use Rattle.lists.specs.Exact.{◌∈◌}
use Rattle.lists.specs.Lists.{rows, flat, Two}
use Rattle.frame.specs.declared.Built.{Built}
use Rattle.frame.specs.Build.{Given, build_of}
use Rattle.sheet.specs.declared.Job.{Job}
use Rattle.sheet.specs.Reading.{Sound, sheet_of}
use Rattle.sheet.specs.Read.{job_for}
use Rattle.sheet_answer.specs.Solve.{frame_for}

-- what is shown, and the lent pairs as they are left
pub record ListOutcome : Type 0 where
  pub shown : Seen SheetList
  pub pairs : List ℕ

-- `givenFor` with the pairs that are lent
unfoldable pub given_by_job : Job → List ℕ → List ℕ → List ℕ → Given
given_by_job j coordinates exclusions pairs =
    record {
      frame = frame_for j;
      coordinates = coordinates;
      exclusions = exclusions;
      pairs = pairs;
      starts = replicate 16384 0;
      items = replicate 1024 0;
    }

abbrev pub with_atoms : ℕ → Seen Built → Seen SheetList
with_atoms n (answered c) = answered (record { atoms = n; built = c })
with_atoms n (refused k p) = refused k p

unfoldable pub job_list : Job → List ℕ → List ℕ → List ℕ → ListOutcome
unfolding given_by_job
job_list j coordinates exclusions pairs =
    record {
      shown = with_atoms j.atoms (build_of (given_by_job j coordinates exclusions pairs)).answer;
      pairs = (build_of (given_by_job j coordinates exclusions pairs)).pairs;
    }

-- a sheet that is refused leaves the pairs as they came
abbrev pub list_for : Seen Sound → List ℕ → ListOutcome
list_for (answered a) pairs = job_list (job_for a.head (length a.rows)) a.coords (flat a.rows) pairs
list_for (refused n p) pairs = record { shown = refused n p; pairs = pairs }

-- over 65,536 bytes: 1
unfoldable pub sheet_list_of : List ℕ → List ℕ → ListOutcome
unfolding job_list
sheet_list_of s pairs = cond (ltb 65536 (length s)) (record { shown = refused_by Lengths; pairs = pairs }) (list_for (sheet_of s) pairs)

abbrev pub ListSays : List ℕ → List ℕ → Result SheetList Refusal → List ℕ → Type 0
ListSays s pairs r pairs' = record { shown = seen r; pairs = pairs' } ≡ sheet_list_of s pairs

-- what the crates above go by: a sheet has at most 1,024 atoms, its pairs fit the room, and each is two of its atoms
pub record Sheeted (c : SheetList) (pairs : List ℕ) : Type 0 where
  pub few : c.atoms ≤ 1024
  pub room : 2 * c.built.pairs ≤ length pairs
  pub two : (p : ℕ × ℕ) → p ∈ rows (take (2 * c.built.pairs) pairs) → Two c.atoms p

-- after an answered call
abbrev pub ListFits : Result SheetList Refusal → List ℕ → Type 0
ListFits r pairs' = (c : SheetList) → seen r ≡ answered c → Sheeted c pairs'
