-- What the private functions say of themselves: nobody has to believe it. Definitions only.
use Rattle.std.specs.Prelude.{Err, Ok, Result}
use Rattle.std.specs.Prelude.{ℕ, ◌+◌, ◌≡◌, false, List, Float, length}
use Rattle.answer.specs.declared.Refusal.{Refusal}
use Rattle.answer.specs.Seen.{seen}
use Rattle.float.specs.Literals.{f0}
use Rattle.virial.specs.Virial.{zero_forces}
use Rattle.neighbor.specs.declared.State.{State}
use Rattle.evaluate.specs.declared.Evaluated.{Evaluated}
use Rattle.evaluate.specs.Steps.{settled_in}
use Rattle.verlet_step.specs.declared.Stepped.{Stepped}
use Rattle.verlet_step.specs.Calls.{Motion, advanced_by}
use Rattle.verlet_step.specs.Calls as Step
use Rattle.verlet_step.specs.Steps.{stepped_from}
use Rattle.fire.specs.declared.FireOptions.{FireOptions}
use Rattle.fire.specs.declared.Fired.{Fired}
use Rattle.fire.specs.declared.steer.Gait.{Gait}
use Rattle.fire.specs.declared.kernel.Stage.{Stage}
use Rattle.fire.specs.Calls.{Relaxing, relaxing, begun_by, turned_after, turned_by, relaxed_by, converged_of}
use Rattle.fire.specs.Steer.{largest_force, fresh_gait, steered_of}

abbrev pub stage_of : Stepped → Gait → (largest : Float) → (iteration : ℕ) → Stage
stage_of last gait largest iteration = record { last = last; gait = gait; largest = largest; iteration = iteration }

-- the run that a stage and the lent memory show
abbrev pub relaxing_of : Stage → (positions velocities : List Float) → (pairs : List ℕ) → (references : List Float) → (starts items : List ℕ) → (forces : List Float) → Relaxing
relaxing_of s positions velocities pairs references starts items forces =
    relaxing (Step.shown s.last positions velocities pairs references starts items forces) s.gait s.largest s.iteration

-- a stage and the velocities
pub record Paced : Type 0 where
  pub stage : Stage
  pub velocities : List Float

abbrev pub paced : Stage → List Float → Paced
paced s vs = record { stage = s; velocities = vs }

unfoldable pub paced_first : (dt : Float) → (fs vs : List Float) → Evaluated → Result (Unit {0}) Refusal → Paced
paced_first dt fs vs e (Err r) = paced (stage_of (stepped_from e false e.sum.energy) (fresh_gait dt) f0 0) vs
paced_first dt fs vs e (Ok tt) = paced (stage_of (stepped_from e false e.sum.energy) (fresh_gait dt) (largest_force fs) 0) (zero_forces (length vs))

unfoldable pub paced_after : (dtMax : Float) → Stage → (fs vs : List Float) → Stepped → Result (Unit {0}) Refusal → Paced
paced_after dtMax s fs vs r (Err why) = paced (stage_of r s.gait s.largest (s.iteration + 1)) vs
paced_after dtMax s fs vs r (Ok tt) =
    paced (stage_of r (steered_of dtMax s.gait fs vs).0 (largest_force fs) (s.iteration + 1)) (steered_of dtMax s.gait fs vs).1

-- what `begin`, `turn` and `relax` answer, and what everything lent holds at exit; the motion is that at entry
abbrev pub BeginSays : Motion → Stage → (velocities : List Float) → (pairs : List ℕ) → (references : List Float) → (starts items : List ℕ) → (forces : List Float) → Type 0
BeginSays m r velocities pairs references starts items forces = relaxing_of r m.job.given.positions velocities pairs references starts items forces ≡ begun_by settled_in m

abbrev pub TurnSays : (dtMax : Float) → Stage → Motion → Stage → (positions velocities : List Float) → (pairs : List ℕ) → (references : List Float) → (starts items : List ℕ) → (forces : List Float) → Type 0
TurnSays dtMax s m r positions velocities pairs references starts items forces =
    relaxing_of r positions velocities pairs references starts items forces
    ≡ turned_after dtMax s.gait s.largest s.iteration (advanced_by settled_in m).list.answer (advanced_by settled_in m)

abbrev pub RelaxSays : FireOptions → Stage → Motion → Stage → (positions velocities : List Float) → (pairs : List ℕ) → (references : List Float) → (starts items : List ℕ) → (forces : List Float) → Type 0
RelaxSays o s m r positions velocities pairs references starts items forces =
    relaxing_of r positions velocities pairs references starts items forces
    ≡ relaxed_by (turned_by settled_in o.dt_max m) o.force_tol o.max_iters
    (relaxing_of s m.job.given.positions m.velocities m.job.given.pairs m.job.given.references m.job.given.starts m.job.given.items m.job.forces)

abbrev pub fired_from : (tol : Float) → Stage → Fired
fired_from tol s =
    record {
      done = s.last.done;
      iteration = s.iteration;
      stopped = s.last.stopped;
      converged = converged_of tol s.largest (seen s.last.done);
      energy = s.last.potential;
      max_force = s.largest;
      state = s.last.state;
    }

abbrev pub fired_refused : State → Refusal → Fired
fired_refused s why = record { done = Err why; iteration = 0; stopped = false; converged = false; energy = f0; max_force = f0; state = s }
