-- What an outcome of `fire` tells, by induction over the iterations. Assumes nothing.
use Rattle.std.specs.Prelude.{Err, Ok, Result}
use Rattle.answer.specs.declared.Refusal.{Refusal}
use Prim.Native.Nat.{ℕ, zero, suc, ◌+◌, ◌≤◌, ◌<◌}
use native.Mathlib.Omega.{arith}
use mathlib.Core.Path.{◌≡◌, refl, sym, ap, ◌∙◌, subst}
use mathlib.Core.Bool.{true, false, false≢true}
use lib.Ieee.{Float, le, lt}
use lib.ListN.{length}
use Rattle.answer.specs.declared.Refusal.TheVariants.{Drifted}
use Rattle.answer.specs.Seen.{Seen, answered, refused}
use Rattle.float.specs.Arith.{at}
use Rattle.float.specs.Def.{abs_of}
use Rattle.verlet.specs.Parts.{drifts}
use Rattle.evaluate.specs.Calls.{Job, settled_of}
use Rattle.evaluate.specs.Calls as Evaluation
use Rattle.verlet_step.specs.Calls.{Motion, units_of, landed_after, landed_by, all_stays, moved, advanced_by}
use Rattle.verlet_step.specs.Calls as Step
use Rattle.fire.specs.declared.FireOptions.{FireOptions}
use Rattle.fire.specs.declared.steer.Gait.{Gait}
use Rattle.fire.specs.Calls.{Relaxing, begun_after, begun_by, next_motion, turned_after, turned_by, converged_of, goes_on, relaxed_by, ran_by, settling_asked, ran_unless, ended, fired_of}
use Rattle.fire.specs.Steer.{largest_force}
use Rattle.fire.specs.Theorems.{FireEnds, FireConverges, LeftBy, FireEvaluates}
use Rattle.fire.proofs.Largest.{none_past}
use Rattle.fire.proofs.Turns.{either_way, begun_counts, turned_count}

-- ---- the count
module _ (ev : Job → Evaluation.Outcome) (dtMax tol : Float) (m : Motion) where
  next_count : (s : Relaxing) → (turned_by ev dtMax m s).iteration ≡ s.iteration + 1
  unfolding turned_by
  next_count s = turned_count dtMax s.gait s.largest s.iteration (advanced_by ev (next_motion m s)).list.answer (advanced_by ev (next_motion m s))

  within : (n : ℕ) (s : Relaxing) → (relaxed_by (turned_by ev dtMax m) tol n s).iteration ≤ s.iteration + n
  unfolding relaxed_by
  within zero s = omega arith
  within (suc n) s =
      either_way (λ (t : Relaxing). t.iteration ≤ s.iteration + suc n) (goes_on tol s.largest s.left.list.answer)
      (omega (arith, within n (turned_by ev dtMax m s), next_count s))
      (omega arith)

ran_within : (o : FireOptions) (m : Motion) → (ran_by settled_of o m).iteration ≤ o.max_iters
unfolding ran_by
ran_within o m = omega (arith, within settled_of o.dt_max o.force_tol m o.max_iters (begun_by settled_of m), (begun_counts m settled_of).1)

unless_within : (o : FireOptions) (m : Motion) (d : Result (Unit {0}) Refusal) → (ran_unless o m d).iteration ≤ o.max_iters
unfolding ran_unless
unless_within o m (Err r) = omega arith
unless_within o m (Ok tt) = ran_within o m

pub fire_ends : (o : FireOptions) (m : Motion) → FireEnds o m
unfolding fired_of
fire_ends o m = unless_within o m (settling_asked o m)

-- ---- what an answered run holds: the last evaluation, and its largest component
abbrev Refuses : Seen (Unit {0}) → Type 0
Refuses (answered u) = ⊥
Refuses (refused n p) = Unit {0}

not_both : {n p : ℕ} → ◌≡◌ {A = Seen (Unit {0})} (refused n p) (answered tt) → ⊥
not_both h = subst Refuses h tt

-- what a step left is what the evaluation of a job left
record Evaluated (m : Motion) (o : Step.Outcome) : Type 0 where
  last : Job
  terms : last.terms ≡ m.job.terms
  cell : last.given.cell ≡ m.job.given.cell
  exclusions : last.given.exclusions ≡ m.job.given.exclusions
  positions : o.positions ≡ last.given.positions
  potential : o.potential ≡ (settled_of last).total.sum.energy
  forces : o.forces ≡ (settled_of last).total.forces
  list : o.list ≡ (settled_of last).list

record Held (m : Motion) (s : Relaxing) : Type 0 where
  evaluated : Evaluated m s.left
  measured : s.largest ≡ largest_force s.left.forces

abbrev Holds : Motion → Relaxing → Type 0
Holds m s = s.left.list.answer ≡ answered tt → Held m s

module _ (m : Motion) where
  begun_after_lem : (a : Seen (Unit {0})) → (settled_of m.job).list.answer ≡ a → Holds m (begun_after m a (settled_of m.job))
  unfolding begun_after
  begun_after_lem (refused n p) q h = absurd (not_both (sym q ∙ h))
  begun_after_lem (answered u) q h =
      record {
        evaluated = record { last = m.job; terms = refl; cell = refl; exclusions = refl; positions = refl; potential = refl; forces = refl; list = refl };
        measured = refl;
      }

  begun_holds : Holds m (begun_by settled_of m)
  unfolding begun_by
  begun_holds = begun_after_lem (settled_of m.job).list.answer refl

-- a step's motion k, of the terms, cell and exclusions of m
module _ (m : Motion) (k : Motion) (t : k.job.terms ≡ m.job.terms) (c : k.job.given.cell ≡ m.job.given.cell) (x : k.job.given.exclusions ≡ m.job.given.exclusions) where
  landed_after_lem : (a : Seen (Unit {0})) → (settled_of k.job).list.answer ≡ a
      → (landed_after k a (settled_of k.job)).list.answer ≡ answered tt → Evaluated m (landed_after k a (settled_of k.job))
  unfolding landed_after
  landed_after_lem (refused n p) q h = absurd (not_both (sym q ∙ h))
  landed_after_lem (answered u) q h = record { last = k.job; terms = t; cell = c; exclusions = x; positions = refl; potential = refl; forces = refl; list = refl }

  landed_holds : (landed_by settled_of k).list.answer ≡ answered tt → Evaluated m (landed_by settled_of k)
  unfolding landed_by
  landed_holds = landed_after_lem (settled_of k.job).list.answer refl

advanced_holds : (m k : Motion) → k.job.terms ≡ m.job.terms → k.job.given.cell ≡ m.job.given.cell → k.job.given.exclusions ≡ m.job.given.exclusions
    → (advanced_by settled_of k).list.answer ≡ answered tt → Evaluated m (advanced_by settled_of k)
unfolding advanced_by
advanced_holds m k t c x =
    either_way (λ (o : Step.Outcome). o.list.answer ≡ answered tt → Evaluated m o)
    (drifts (units_of k) k.dt k.job.forces k.masses k.job.given.positions k.velocities)
    (landed_holds m (moved k) t c x)
    (λ (h : (all_stays k Drifted).list.answer ≡ answered tt). absurd (not_both h))

module _ (dtMax tol : Float) (m : Motion) where
  turned_after_lem : (g : Gait) (largest : Float) (i : ℕ) (a : Seen (Unit {0})) (o : Step.Outcome) → o.list.answer ≡ a → (o.list.answer ≡ answered tt → Evaluated m o)
      → Holds m (turned_after dtMax g largest i a o)
  unfolding turned_after
  turned_after_lem g largest i (refused n p) o q e h = absurd (not_both (sym q ∙ h))
  turned_after_lem g largest i (answered u) o q e h =
      let v = e h in
      record {
        evaluated = record { last = v.last; terms = v.terms; cell = v.cell; exclusions = v.exclusions; positions = v.positions; potential = v.potential; forces = v.forces; list = v.list };
        measured = refl;
      }

  turned_holds : (s : Relaxing) → Holds m (turned_by settled_of dtMax m s)
  unfolding turned_by
  turned_holds s =
      turned_after_lem s.gait s.largest s.iteration (advanced_by settled_of (next_motion m s)).list.answer (advanced_by settled_of (next_motion m s)) refl (advanced_holds m (next_motion m s) refl refl refl)

  relaxed_holds : (n : ℕ) (s : Relaxing) → Holds m s → Holds m (relaxed_by (turned_by settled_of dtMax m) tol n s)
  unfolding relaxed_by
  relaxed_holds zero s h = h
  relaxed_holds (suc n) s h =
      either_way (Holds m) (goes_on tol s.largest s.left.list.answer) (relaxed_holds n (turned_by settled_of dtMax m s) (turned_holds s)) h

ran_holds : (o : FireOptions) (m : Motion) → Holds m (ran_by settled_of o m)
unfolding ran_by
ran_holds o m = relaxed_holds o.dt_max o.force_tol m o.max_iters (begun_by settled_of m) (begun_holds m)

unless_holds : (o : FireOptions) (m : Motion) (d : Result (Unit {0}) Refusal) → Holds m (ran_unless o m d)
unfolding ran_unless
unless_holds o m (Err r) h = absurd (not_both h)
unless_holds o m (Ok tt) h = ran_holds o m h

-- ---- the energy is that of the evaluation at the positions left
left_by : (tol : Float) (m : Motion) (s : Relaxing) → Held m s → LeftBy m (ended tol s)
left_by tol m s h =
    let e = h.evaluated in
    record {
      last = e.last;
      terms = e.terms;
      cell = e.cell;
      exclusions = e.exclusions;
      positions = e.positions;
      energy = e.potential;
      forces = e.forces;
      state = ap (λ l. l.state) e.list;
      pairs = ap (λ l. l.pairs) e.list;
    }

pub fire_evaluates : (o : FireOptions) (m : Motion) → FireEvaluates o m
unfolding fired_of
fire_evaluates o m h = left_by o.force_tol m (ran_unless o m (settling_asked o m)) (unless_holds o m (settling_asked o m) h)

-- ---- converged: no component passes the tolerance
converged_answers : (tol largest : Float) (a : Seen (Unit {0})) → converged_of tol largest a ≡ true → (a ≡ answered tt) × (le largest tol ≡ true)
unfolding converged_of
converged_answers tol largest (refused n p) h = absurd (false≢true h)
converged_answers tol largest (answered u) h = (refl, h)

none_passes : (tol : Float) (s : Relaxing) → le s.largest tol ≡ true → s.largest ≡ largest_force s.left.forces
    → (k : ℕ) → k < length s.left.forces → lt tol (abs_of (at s.left.forces k)) ≡ false
unfolding largest_force
none_passes tol s h e = none_past s.left.forces tol (length s.left.forces) (sym (ap (λ (x : Float). le x tol) e) ∙ h)

converges : (tol : Float) (m : Motion) (s : Relaxing) → Holds m s → converged_of tol s.largest s.left.list.answer ≡ true
    → (k : ℕ) → k < length s.left.forces → lt tol (abs_of (at s.left.forces k)) ≡ false
converges tol m s held h =
    let c = converged_answers tol s.largest s.left.list.answer h in
    none_passes tol s c.1 (held c.0).measured

pub fire_converges : (o : FireOptions) (m : Motion) → FireConverges o m
unfolding fired_of
fire_converges o m h = converges o.force_tol m (ran_unless o m (settling_asked o m)) (unless_holds o m (settling_asked o m)) h
