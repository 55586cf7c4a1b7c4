-- What `fire` answers and leaves in everything lent: one outcome, made from the entry values alone. Definitions only.
use Rattle.std.specs.Prelude.{Err, Ok, Result}
use Rattle.answer.specs.declared.Refusal.{Refusal}
use Rattle.std.specs.Prelude.{ℕ, zero, suc, ◌+◌, ◌≡◌, Bool, false, cond, not, List, Float, length}
use Rattle.std.specs.Float.Ieee.{le}
use Rattle.answer.specs.Seen.{Seen, answered, refused, seen}
use Rattle.float.specs.Literals.{f0}
use Rattle.virial.specs.Virial.{zero_forces}
use Rattle.neighbor.specs.declared.State.{State}
use Rattle.potentials_pair.specs.Species.{Tables}
use Rattle.neighbor.specs.Update.{given}
use Rattle.evaluate.specs.declared.Molecule.{Molecule}
use Rattle.evaluate.specs.declared.Setting.{Setting}
use Rattle.evaluate.specs.Calls.{Job, job, asked_of, settled_of}
use Rattle.evaluate.specs.Calls as Evaluation
use Rattle.verlet_step.specs.Asked.{motion_fits}
use Rattle.verlet_step.specs.Calls.{Motion, motion, motion_of, motion_on, advanced_by, all_stays}
use Rattle.verlet_step.specs.Calls as Step
use Rattle.fire.specs.declared.FireOptions.{FireOptions}
use Rattle.fire.specs.declared.Fired.{Fired}
use Rattle.fire.specs.declared.steer.Gait.{Gait}
use Rattle.fire.specs.Asked.{settling_ok}
use Rattle.fire.specs.Steer.{largest_force, fresh_gait, steered_of}

-- a call is given a step's motion: its time step is the options', its potential +0, its forces a room
abbrev pub settling_of : FireOptions → Setting → State → (tab : Tables) (species : List ℕ) (charges : List Float) (bonds : List ℕ) (lengths ks : List Float) (angles : List ℕ) (per_angle masses : List Float) (exclusions : List ℕ) (positions velocities : List Float) (pairs : List ℕ) (references : List Float) (starts items : List ℕ) (forces : List Float) → Motion
settling_of o setting s tab species charges bonds lengths ks angles per_angle masses exclusions positions velocities pairs references starts items forces =
    motion_of setting o.dt s f0 tab species charges bonds lengths ks angles per_angle masses exclusions positions velocities pairs references starts items forces

-- .. from what it is handed with a molecule
abbrev pub settling_on : FireOptions → Setting → State → Molecule → (masses : List Float) (exclusions : List ℕ) (positions velocities : List Float) (pairs : List ℕ) (references : List Float) (starts items : List ℕ) (forces : List Float) → Motion
settling_on o setting s m masses exclusions positions velocities pairs references starts items forces =
    motion_on setting o.dt s f0 m masses exclusions positions velocities pairs references starts items forces

-- between two iterations: what a step leaves (its potential is the energy), the pace, the largest force component, and how many iterations there were
pub record Relaxing : Type 0 where
  pub left : Step.Outcome
  pub gait : Gait
  pub largest : Float
  pub iteration : ℕ

abbrev pub relaxing : Step.Outcome → Gait → (largest : Float) → (iteration : ℕ) → Relaxing
relaxing o gait largest iteration = record { left = o; gait = gait; largest = largest; iteration = iteration }

-- an outcome of a step at other velocities
abbrev pub with_speeds : Step.Outcome → List Float → Step.Outcome
with_speeds o vs = record { list = o.list; stopped = o.stopped; potential = o.potential; positions = o.positions; velocities = vs; forces = o.forces }

-- ---- lines 80 to 86: the first evaluation. Refused, it has energy +0 and forces as they came, and the atoms stay; "One at the first evaluation reports iteration 0,
-- with positions and velocities as they came"
abbrev pub evaluated_at : Motion → Evaluation.Outcome → (velocities : List Float) → Step.Outcome
evaluated_at m e vs =
    record {
      list = e.list;
      stopped = false;
      potential = e.total.sum.energy;
      positions = m.job.given.positions;
      velocities = vs;
      forces = e.total.forces;
    }

unfoldable pub begun_after : Motion → Seen (Unit {0}) → Evaluation.Outcome → Relaxing
begun_after m (refused n p) e = relaxing (evaluated_at m e m.velocities) (fresh_gait m.dt) f0 0
begun_after m (answered u) e = relaxing (evaluated_at m e (zero_forces (length m.velocities))) (fresh_gait m.dt) (largest_force e.total.forces) 0

unfoldable pub begun_by : (evaluation : Job → Evaluation.Outcome) → Motion → Relaxing
begun_by evaluation m = begun_after m (evaluation m.job).list.answer (evaluation m.job)

-- ---- lines 97 to 146: an iteration

-- the motion that it starts from: the run's numbers, and the rest as the call has it
abbrev pub next_motion : Motion → Relaxing → Motion
next_motion m s =
    motion s.gait.dt
    (job m.job.terms
    (given s.left.list.state m.job.given.cell s.left.positions m.job.given.exclusions s.left.list.pairs s.left.list.references s.left.list.starts s.left.list.items)
    s.left.forces)
    m.masses s.left.potential s.left.velocities

-- after the step's half kick, drift, evaluation and half kick. "A refusal inside an iteration stops it, reports the iteration, and leaves what a step stopped there leaves"
unfoldable pub turned_after : (dtMax : Float) → Gait → (largest : Float) → (iteration : ℕ) → Seen (Unit {0}) → Step.Outcome → Relaxing
turned_after dtMax g largest i (refused n p) o = relaxing o g largest (i + 1)
turned_after dtMax g largest i (answered u) o =
    relaxing (with_speeds o (steered_of dtMax g o.forces o.velocities).1) (steered_of dtMax g o.forces o.velocities).0 (largest_force o.forces) (i + 1)

unfoldable pub turned_by : (evaluation : Job → Evaluation.Outcome) → (dtMax : Float) → Motion → Relaxing → Relaxing
turned_by evaluation dtMax m s =
    turned_after dtMax s.gait s.largest s.iteration (advanced_by evaluation (next_motion m s)).list.answer (advanced_by evaluation (next_motion m s))

-- ---- lines 87 to 163: iterations up to the limit, as long as none is refused and the largest component passes the tolerance

unfoldable pub converged_of : (tol largest : Float) → Seen (Unit {0}) → Bool
converged_of tol largest (refused n p) = false
converged_of tol largest (answered u) = le largest tol

unfoldable pub goes_on : (tol largest : Float) → Seen (Unit {0}) → Bool
goes_on tol largest (refused n p) = false
goes_on tol largest (answered u) = not (le largest tol)

unfoldable pub relaxed_by : (turn : Relaxing → Relaxing) → (tol : Float) → (limit : ℕ) → Relaxing → Relaxing
relaxed_by turn tol zero s = s
relaxed_by turn tol (suc n) s = cond (goes_on tol s.largest s.left.list.answer) (relaxed_by turn tol n (turn s)) s

unfoldable pub ran_by : (evaluation : Job → Evaluation.Outcome) → FireOptions → Motion → Relaxing
ran_by evaluation o m = relaxed_by (turned_by evaluation o.dt_max m) o.force_tol o.max_iters (begun_by evaluation m)

-- ---- the call

-- 1, 2, 6, 3, 4, 5: an evaluation's tests, with a step's at 1 and the options', masses' and velocities' at 3
unfoldable pub settling_asked : FireOptions → Motion → Result (Unit {0}) Refusal
settling_asked o m =
    asked_of (motion_fits (length m.job.given.positions) (length m.velocities) (length m.masses)) (settling_ok o m.masses m.velocities) m.job

-- "Everything lent stays as it came"
unfoldable pub ran_unless : FireOptions → Motion → Result (Unit {0}) Refusal → Relaxing
ran_unless o m (Err r) = relaxing (all_stays m r) (fresh_gait m.dt) f0 0
ran_unless o m (Ok tt) = ran_by settled_of o m

-- answer, iteration, stopped, converged, energy, largest component and State; then everything lent
pub record Outcome : Type 0 where
  pub answer : Seen (Unit {0})
  pub iteration : ℕ
  pub stopped : Bool
  pub converged : Bool
  pub energy : Float
  pub largest : Float
  pub state : State
  pub positions : List Float
  pub velocities : List Float
  pub pairs : List ℕ
  pub references : List Float
  pub starts : List ℕ
  pub items : List ℕ
  pub forces : List Float

abbrev pub ended : (tol : Float) → Relaxing → Outcome
ended tol s =
    record {
      answer = s.left.list.answer;
      iteration = s.iteration;
      stopped = s.left.stopped;
      converged = converged_of tol s.largest s.left.list.answer;
      energy = s.left.potential;
      largest = s.largest;
      state = s.left.list.state;
      positions = s.left.positions;
      velocities = s.left.velocities;
      pairs = s.left.list.pairs;
      references = s.left.list.references;
      starts = s.left.list.starts;
      items = s.left.list.items;
      forces = s.left.forces;
    }

unfoldable pub fired_of : FireOptions → Motion → Outcome
fired_of o m = ended o.force_tol (ran_unless o m (settling_asked o m))

abbrev pub shown : Fired → (positions velocities : List Float) → (pairs : List ℕ) → (references : List Float) → (starts items : List ℕ) → (forces : List Float) → Outcome
shown r positions velocities pairs references starts items forces =
    record {
      answer = seen r.done;
      iteration = r.iteration;
      stopped = r.stopped;
      converged = r.converged;
      energy = r.energy;
      largest = r.max_force;
      state = r.state;
      positions = positions;
      velocities = velocities;
      pairs = pairs;
      references = references;
      starts = starts;
      items = items;
      forces = forces;
    }

-- The contract of `fire`: what the answer shows, and what everything lent holds at exit.
abbrev pub FireSays : FireOptions → Motion → Fired → (positions velocities : List Float) → (pairs : List ℕ) → (references : List Float) → (starts items : List ℕ) → (forces : List Float) → Type 0
FireSays o m r positions velocities pairs references starts items forces = shown r positions velocities pairs references starts items forces ≡ fired_of o m
