-- What `step` and `finish` answer and leave in everything lent: one outcome each, made from the entry values alone. Definitions only.
use Rattle.std.specs.Prelude.{Err, Ok, Option, Result}
use Rattle.verlet.specs.declared.Thermostat.{Thermostat}
use Rattle.std.specs.Prelude.{ℕ, ◌≡◌, Bool, true, false, cond, List, Float, length}
use Rattle.answer.specs.declared.Refusal.{Refusal}
use Rattle.answer.specs.declared.Refusal.TheVariants.{Drifted}
use Rattle.answer.specs.Seen.{Seen, answered, refused, seen}
use Rattle.virial.specs.declared.Units.{Units}
use Rattle.verlet.specs.Parts.{kicked_by, moved_by, drifts, thermostat_by}
use Rattle.neighbor.specs.declared.State.{State}
use Rattle.neighbor.specs.Listed.{Listed}
use Rattle.neighbor.specs.Box.{SameBits}
use Rattle.neighbor.specs.Update.{Given, given, stays}
use Rattle.neighbor.specs.Update as Update
use Rattle.potentials_pair.specs.Species.{Tables}
use Rattle.evaluate.specs.declared.Molecule.{Molecule}
use Rattle.evaluate.specs.declared.Setting.{Setting}
use Rattle.evaluate.specs.Calls.{Job, job, job_of, job_on, asked_of, settled_of}
use Rattle.evaluate.specs.Calls as Evaluation
use Rattle.verlet_step.specs.declared.Stepped.{Stepped}
use Rattle.verlet_step.specs.Asked.{step_limit, finish_limit, motion_fits, motion_ok}

-- everything that a step is given but its thermostat: what an evaluation is given, its forces being the old ones, and the atoms' motion
pub record Motion : Type 0 where
  pub dt : Float
  pub job : Job
  pub masses : List Float
  pub potential : Float
  pub velocities : List Float

abbrev pub motion : (dt : Float) → Job → (masses : List Float) → (potential : Float) → (velocities : List Float) → Motion
motion dt j masses potential velocities = record { dt = dt; job = j; masses = masses; potential = potential; velocities = velocities }

-- that of a call, from what it is handed
abbrev pub motion_of : Setting → (dt : Float) → State → (potential : Float) → (tab : Tables) (species : List ℕ) (charges : List Float) (bonds : List ℕ) (lengths ks : List Float) (angles : List ℕ) (per_angle masses : List Float) (exclusions : List ℕ) (positions velocities : List Float) (pairs : List ℕ) (references : List Float) (starts items : List ℕ) (forces : List Float) → Motion
motion_of setting dt s potential tab species charges bonds lengths ks angles per_angle masses exclusions positions velocities pairs references starts items forces =
    motion dt (job_of setting s tab species charges bonds lengths ks angles per_angle positions exclusions pairs references starts items forces) masses potential velocities

-- .. from what it is handed with a molecule
abbrev pub motion_on : Setting → (dt : Float) → State → (potential : Float) → Molecule → (masses : List Float) (exclusions : List ℕ) (positions velocities : List Float) (pairs : List ℕ) (references : List Float) (starts items : List ℕ) (forces : List Float) → Motion
motion_on setting dt s potential m masses exclusions positions velocities pairs references starts items forces =
    motion dt (job_on setting s m positions exclusions pairs references starts items forces) masses potential velocities

abbrev pub units_of : Motion → Units
units_of m = m.job.terms.units

-- the list's outcome (answer, rebuilt, state, pairs, references, starts, items); whether a 7 or 8 stopped it after the drift; and the atoms
pub record Outcome : Type 0 where
  pub list : Update.Outcome
  pub stopped : Bool
  pub potential : Float
  pub positions : List Float
  pub velocities : List Float
  pub forces : List Float

-- ---- the parts

-- the atoms as they came
abbrev pub atoms_stay : Motion → (stopped : Bool) → Update.Outcome → Outcome
atoms_stay m stopped o =
    record {
      list = o;
      stopped = stopped;
      potential = m.potential;
      positions = m.job.given.positions;
      velocities = m.velocities;
      forces = m.job.forces;
    }

-- "Everything lent stays as it came"
abbrev pub all_stays : Motion → Refusal → Outcome
all_stays m r = atoms_stay m false (stays m.job.given r)

-- after the evaluation e, verlet.rs, `verlet_step`, lines 187 to 194: the new forces and potential, and half a kick by them.
-- "A 7 or 8 inside a step .. leaves positions and velocities drifted, forces and potential old, and says so"
unfoldable pub landed_after : Motion → Seen (Unit {0}) → Evaluation.Outcome → Outcome
landed_after m (refused n p) e = atoms_stay m true e.list
landed_after m (answered u) e =
    record {
      list = e.list;
      stopped = false;
      potential = e.total.sum.energy;
      positions = m.job.given.positions;
      velocities = kicked_by (units_of m) m.dt e.total.forces m.masses m.velocities;
      forces = e.total.forces;
    }

-- lines 186 to 194: the evaluation at the positions, then the second kick
unfoldable pub landed_by : (evaluation : Job → Evaluation.Outcome) → Motion → Outcome
landed_by evaluation m = landed_after m (evaluation m.job).list.answer (evaluation m.job)

-- what a build is given, at other positions
abbrev pub given_at : Given → (positions : List Float) → Given
given_at g xs = given g.state g.cell xs g.exclusions g.pairs g.references g.starts g.items

-- the atoms at other positions and velocities
abbrev pub motion_at : Motion → List Float × List Float → Motion
motion_at m p = motion m.dt (job m.job.terms (given_at m.job.given p.0) m.job.forces) m.masses m.potential p.1

-- lines 178 to 184: half a kick by the old forces, and the drift
abbrev pub moved : Motion → Motion
moved m = motion_at m (moved_by (units_of m) m.dt m.job.forces m.masses m.job.given.positions m.velocities)

-- lines 178 to 194. "The drift is tested (3) after 5 and before anything is stored"
unfoldable pub advanced_by : (evaluation : Job → Evaluation.Outcome) → Motion → Outcome
advanced_by evaluation m =
    cond (drifts (units_of m) m.dt m.job.forces m.masses m.job.given.positions m.velocities)
    (landed_by evaluation (moved m))
    (all_stays m Drifted)

-- lines 195 to 198, where the step came so far
unfoldable pub cooled_of : Option Thermostat → Units → (dt : Float) → (masses : List Float) → Seen (Unit {0}) → (velocities : List Float) → List Float
cooled_of t units dt ms (refused n p) vs = vs
cooled_of t units dt ms (answered u) vs = thermostat_by t units dt ms vs

abbrev pub cooled : Option Thermostat → Motion → Outcome → Outcome
cooled t m o =
    record {
      list = o.list;
      stopped = o.stopped;
      potential = o.potential;
      positions = o.positions;
      velocities = cooled_of t (units_of m) m.dt m.masses o.list.answer o.velocities;
      forces = o.forces;
    }

-- ---- the calls

-- 1, 2, 6, 3, 4, 5: an evaluation's tests, with what is asked of the motion at 1 and at 3
unfoldable pub motion_asked : (limit : Float) → Option Thermostat → Motion → Result (Unit {0}) Refusal
motion_asked limit t m =
    asked_of (motion_fits (length m.job.given.positions) (length m.velocities) (length m.masses))
    (motion_ok limit m.dt t m.masses m.velocities m.job.forces m.potential)
    m.job

-- the work, unless the tests refuse
unfoldable pub unless : Motion → Result (Unit {0}) Refusal → Outcome → Outcome
unless m (Err r) o = all_stays m r
unless m (Ok tt) o = o

-- a step: half a kick, the drift, the evaluation, half a kick, the thermostat
unfoldable pub stepped_of : Option Thermostat → Motion → Outcome
stepped_of t m = unless m (motion_asked step_limit t m) (cooled t m (advanced_by settled_of m))

-- "a finishing call resumes there": the evaluation, half a kick, the thermostat
unfoldable pub finished_of : Option Thermostat → Motion → Outcome
finished_of t m = unless m (motion_asked finish_limit t m) (cooled t m (landed_by settled_of m))

abbrev pub shown : Stepped → (positions velocities : List Float) → (pairs : List ℕ) → (references : List Float) → (starts items : List ℕ) → (forces : List Float) → Outcome
shown r positions velocities pairs references starts items forces =
    record {
      list =
          record {
            answer = seen r.done;
            rebuilt = r.rebuilt;
            state = r.state;
            pairs = pairs;
            references = references;
            starts = starts;
            items = items;
          };
      stopped = r.stopped;
      potential = r.potential;
      positions = positions;
      velocities = velocities;
      forces = forces;
    }

-- The contract of `step`: what the answer shows, and what everything lent holds at exit.
abbrev pub StepSays : Option Thermostat → Motion → Stepped → (positions velocities : List Float) → (pairs : List ℕ) → (references : List Float) → (starts items : List ℕ) → (forces : List Float) → Type 0
StepSays t m r positions velocities pairs references starts items forces = shown r positions velocities pairs references starts items forces ≡ stepped_of t m

-- The contract of `finish`, to which positions are lent to be read.
abbrev pub FinishSays : Option Thermostat → Motion → Stepped → (velocities : List Float) → (pairs : List ℕ) → (references : List Float) → (starts items : List ℕ) → (forces : List Float) → Type 0
FinishSays t m r velocities pairs references starts items forces = shown r m.job.given.positions velocities pairs references starts items forces ≡ finished_of t m

-- Demand 3 of a step or a finishing call that built the list anew, said of the lent pairs at exit, over the positions at exit: those of a step are the moved ones.
abbrev pub StepLists : Motion → Stepped → (positions : List Float) → (pairs : List ℕ) → Type 0
StepLists m r positions pairs = r.rebuilt ≡ true → Listed (given_at m.job.given positions) r.state pairs

-- 02, No. 6, of a step or a finishing call that kept the list: the cell is, bit for bit, the one that it was built in. It follows from what they say (proofs/Box.antt).
abbrev pub StepKeeps : Motion → Stepped → Type 0
StepKeeps m r = r.done ≡ Ok tt → r.rebuilt ≡ false → SameBits m.job.given.state.built_in m.job.given.cell
