-- What an evaluation answers and leaves in everything lent: one outcome, made from the entry values alone. Definitions only.
use Rattle.std.specs.Prelude.{Err, Ok, Result}
use Rattle.answer.specs.declared.Refusal.{Refusal}
use Rattle.std.specs.Prelude.{ℕ, ◌≡◌, Bool, true, false, List, Float, length}
use Rattle.evaluate.specs.Asked.{job_asked}
use Rattle.answer.specs.Seen.{Seen, answered, refused, seen}
use Rattle.lists.specs.Lists.{rows}
use Rattle.virial.specs.Virial.{zero_sum}
use Rattle.potentials_pair.specs.declared.Lj.{Lj}
use Rattle.potentials_pair.specs.declared.Mixed.{Mixed}
use Rattle.potentials_pair.specs.Pull.{Total}
use Rattle.potentials_pair.specs.Species.{Tables, look_of}
use Rattle.neighbor.specs.declared.Question.TheVariants.{Outdated}
use Rattle.neighbor.specs.declared.State.{State}
use Rattle.neighbor.specs.Update.{Given, given, update_of, listed_of, stays}
use Rattle.neighbor.specs.Update as Update
use Rattle.neighbor.specs.Listed.{Listed}
use Rattle.neighbor.specs.Box.{SameBits}
use Rattle.evaluate.specs.declared.Evaluated.{Evaluated}
use Rattle.evaluate.specs.declared.Molecule.{Molecule}
use Rattle.evaluate.specs.declared.Setting.{Setting}
use Rattle.evaluate.specs.Terms.{Terms, terms, terms_of, contributions, merged_all}

-- everything that an evaluation is given: the terms and their tables, what a build is given, and the forces, lent to be written
pub record Job : Type 0 where
  pub terms : Terms
  pub given : Given
  pub forces : List Float

abbrev pub job : Terms → Given → List Float → Job
job t g forces = record { terms = t; given = g; forces = forces }

-- that of a call, from what it is handed
abbrev pub job_of : Setting → State → (tab : Tables) (species : List ℕ) (charges : List Float) (bonds : List ℕ) (lengths ks : List Float) (angles : List ℕ) (per_angle positions : List Float) (exclusions pairs : List ℕ) (references : List Float) (starts items : List ℕ) (forces : List Float) → Job
job_of setting s tab species charges bonds lengths ks angles per_angle positions exclusions pairs references starts items forces =
    job (terms setting tab species charges bonds lengths ks angles per_angle) (given s setting.cell positions exclusions pairs references starts items) forces

-- .. from what it is handed with a molecule
abbrev pub job_on : Setting → State → Molecule → (positions : List Float) (exclusions pairs : List ℕ) (references : List Float) (starts items : List ℕ) (forces : List Float) → Job
job_on setting s m positions exclusions pairs references starts items forces =
    job (terms_of setting m) (given s setting.cell positions exclusions pairs references starts items) forces

-- its tests, with what a step asks besides
abbrev pub asked_of : (fits in_range : Bool) → Job → Result (Unit {0}) Refusal
asked_of fits in_range j = job_asked fits in_range j.terms j.given (length j.forces)

-- the list's outcome (answer, rebuilt, state, pairs, references, starts, items), and the sum with the forces
pub record Outcome : Type 0 where
  pub list : Update.Outcome
  pub total : Total

-- refused: the forces as they came; the sum, which means nothing then, is zero
abbrev pub without : Job → Update.Outcome → Outcome
without j o = record { list = o; total = record { sum = zero_sum; forces = j.forces } }

-- the terms over the listed pairs; `room` is how many floats a term's own forces have
unfoldable pub total_of : (look : Tables → Lj → ℕ → Mixed) → (room : ℕ) → Job → Update.Outcome → Total
total_of look room j o =
    merged_all (length j.forces) (contributions look j.terms j.given.cell j.given.positions room (rows (listed_of o.state o.pairs)))

-- "The pair list is brought up to date first", by the second question (02, No. 6: "the evaluator asks the second one"); where that is refused (7, 8) the forces stay
unfoldable pub after_list : (look : Tables → Lj → ℕ → Mixed) → (room : ℕ) → Job → Seen (Unit {0}) → Update.Outcome → Outcome
after_list look room j (answered u) o = record { list = o; total = total_of look room j o }
after_list look room j (refused n p) o = without j o

unfoldable pub settled_by : (look : Tables → Lj → ℕ → Mixed) → (room : ℕ) → Job → Outcome
settled_by look room j = after_list look room j (update_of Outdated j.given).answer (update_of Outdated j.given)

-- an evaluation after its tests
abbrev pub settled_of : Job → Outcome
settled_of j = settled_by look_of (length j.forces) j

unfoldable pub after_asked : Job → Result (Unit {0}) Refusal → Outcome
after_asked j (Err r) = without j (stays j.given r)
after_asked j (Ok tt) = settled_of j

unfoldable pub evaluated_of : Job → Outcome
evaluated_of j = after_asked j (asked_of true true j)

abbrev pub shown : Evaluated → (pairs : List ℕ) → (references : List Float) → (starts items : List ℕ) → (forces : List Float) → Outcome
shown r pairs references starts items forces =
    record {
      list =
          record {
            answer = seen r.done;
            rebuilt = r.rebuilt;
            state = r.state;
            pairs = pairs;
            references = references;
            starts = starts;
            items = items;
          };
      total = record { sum = r.sum; forces = forces };
    }

-- The contract of `evaluate`: what the answer shows, and what everything lent holds at exit.
abbrev pub EvaluateSays : Job → Evaluated → (pairs : List ℕ) → (references : List Float) → (starts items : List ℕ) → (forces : List Float) → Type 0
EvaluateSays j r pairs references starts items forces = shown r pairs references starts items forces ≡ evaluated_of j

-- Demand 3 of an evaluation that built the list anew, said of the lent pairs at exit.
abbrev pub EvaluateLists : Job → Evaluated → (pairs : List ℕ) → Type 0
EvaluateLists j r pairs = r.rebuilt ≡ true → Listed j.given r.state pairs

-- 02, No. 6, of an evaluation that kept the list: the cell is, bit for bit, the one that it was built in. It follows from what the call says (proofs/Box.antt).
abbrev pub EvaluateKeeps : Job → Evaluated → Type 0
EvaluateKeeps j r = r.done ≡ Ok tt → r.rebuilt ≡ false → SameBits j.given.state.built_in j.given.cell
