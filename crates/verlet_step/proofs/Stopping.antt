-- `step` and `finish` by their ways, from their outcomes: refused, stopped, answered; and a landing from the state that an 8 leaves. Assumes nothing.
use Rattle.std.specs.Prelude.{Err, Ok, Option, Result}
use Rattle.answer.specs.declared.Refusal.{Refusal}
use Rattle.verlet.specs.declared.Thermostat.{Thermostat}
use Prim.Native.Nat.{ℕ}
use native.Mathlib.Omega.{arith}
use mathlib.Core.Path.{◌≡◌, refl, sym, ap, ◌∙◌}
use mathlib.Core.Bool.{Bool, true, false, cond, false≢true}
use mathlib.Core.Logic.{◌⊎◌, inl, inr, ⊎_elim}
use mathlib.Core.List.{List}
use lib.Ieee.{Float}
use lib.ListN.{length}
use Rattle.answer.specs.Seen.{Seen, answered, refused}
use Rattle.lists.proofs.Cases.{by_test, true_or_false}
use Rattle.verlet.specs.Parts.{move_fits, drifts, moved_by}
use Rattle.verlet.specs.Verlet.{moved_of}
use Rattle.verlet.proofs.Steps.{drifted_length}
use Rattle.virial.specs.declared.Units.{Units}
use Rattle.potentials_pair.specs.Species.{look_of}
use Rattle.neighbor.specs.declared.Question.TheVariants.{Outdated}
use Rattle.neighbor.specs.declared.State.{State}
use Rattle.neighbor.specs.Update.{update_of}
use Rattle.neighbor.specs.Update as Update
use Rattle.evaluate.specs.Calls.{job, after_list, total_of, settled_by, settled_of}
use Rattle.evaluate.specs.Calls as Evaluation
use Rattle.verlet_step.specs.Asked.{step_limit, finish_limit}
use Rattle.verlet_step.specs.Calls.{Motion, motion, Outcome, units_of, atoms_stay, landed_after, landed_by, moved, advanced_by, cooled_of, cooled, motion_asked, unless, stepped_of, finished_of}
use Rattle.verlet_step.specs.Theorems.{Rooms, given_in}
use Rattle.verlet_step.proofs.Relisted.{emptied}

never : {A : Type 0} {n p : ℕ} → ◌≡◌ {A = Seen (Unit {0})} (refused n p) (answered tt) → A
never e = let z : ◌≡◌ {A = ℕ} 0 1 = cc in absurd (omega arith)

-- ---- a landing by its ways
abbrev pub updated : Motion → Update.Outcome
updated m = update_of Outdated m.job.given

module _ (m : Motion) where
  -- the list's outcome is the landing's
  pub landed_list : (a : Seen (Unit {0})) → (updated m).answer ≡ a → (landed_by settled_of m).list ≡ updated m
  unfolding landed_by settled_by after_list landed_after
  landed_list (answered u) h = rw h
  landed_list (refused n p) h = rw h

  pub landed_on : (updated m).answer ≡ answered tt → (landed_by settled_of m).stopped ≡ false
  unfolding landed_by settled_by after_list landed_after
  landed_on h = rw h

  pub landed_stopped : {n p : ℕ} → (updated m).answer ≡ refused n p → landed_by settled_of m ≡ atoms_stay m true (updated m)
  unfolding landed_by settled_by after_list landed_after
  landed_stopped h = rw h

  landed_refused : (a : Seen (Unit {0})) → (updated m).answer ≡ a → (landed_by settled_of m).stopped ≡ true → (n : ℕ) × (p : ℕ) × ((updated m).answer ≡ refused n p)
  landed_refused (answered u) h s = absurd (false≢true (sym (landed_on h) ∙ s))
  landed_refused (refused n p) h s = (n, p, h)

  cooled_stopped : {n p : ℕ} (t : Option Thermostat) (k : Motion) → (updated m).answer ≡ refused n p → cooled t k (atoms_stay m true (updated m)) ≡ atoms_stay m true (updated m)
  unfolding cooled_of
  cooled_stopped t k h = rw h

  -- ---- the drift before it
  abbrev pub drifting : Bool
  drifting = drifts (units_of m) m.dt m.job.forces m.masses m.job.given.positions m.velocities

  advanced_on : drifting ≡ true → advanced_by settled_of m ≡ landed_by settled_of (moved m)
  unfolding advanced_by
  advanced_on h = rw h

  advanced_off : drifting ≡ false → (advanced_by settled_of m).stopped ≡ false
  unfolding advanced_by
  advanced_off h = rw h

  -- ---- the tests before that
  unless_on : {d : Result (Unit {0}) Refusal} (o : Outcome) → d ≡ Ok tt → unless m d o ≡ o
  unfolding unless
  unless_on o h = rw h

  stopped_asked : (d : Result (Unit {0}) Refusal) (o : Outcome) → (unless m d o).stopped ≡ true → d ≡ Ok tt
  unfolding unless
  stopped_asked (Err r) o h = absurd (false≢true h)
  stopped_asked (Ok tt) o h = refl

  answered_asked : (d : Result (Unit {0}) Refusal) (o : Outcome) → (unless m d o).list.answer ≡ answered tt → d ≡ Ok tt
  unfolding unless
  answered_asked (Err r) o h = never h
  answered_asked (Ok tt) o h = refl

-- ---- a step by its ways
-- stopped: it passed its tests and the drift's, the list was refused, and all but the list stands as it was moved
pub record Stopped (t : Option Thermostat) (m : Motion) : Type 0 where
  pub asked : motion_asked step_limit t m ≡ Ok tt
  pub drift : drifting m ≡ true
  pub number : ℕ
  pub place : ℕ
  pub refusal : (updated (moved m)).answer ≡ refused number place
  pub is : stepped_of t m ≡ atoms_stay (moved m) true (updated (moved m))

pub record Halted (t : Option Thermostat) (m : Motion) : Type 0 where
  pub asked : motion_asked finish_limit t m ≡ Ok tt
  pub number : ℕ
  pub place : ℕ
  pub refusal : (updated m).answer ≡ refused number place
  pub is : finished_of t m ≡ atoms_stay m true (updated m)

module _ (t : Option Thermostat) (m : Motion) where
  pub step_on : motion_asked step_limit t m ≡ Ok tt → drifting m ≡ true → stepped_of t m ≡ cooled t m (landed_by settled_of (moved m))
  unfolding stepped_of
  step_on a d = unless_on m (cooled t m (advanced_by settled_of m)) a ∙ ap (cooled t m) (advanced_on m d)

  pub stopped_told : (stepped_of t m).stopped ≡ true → Stopped t m
  unfolding stepped_of
  stopped_told h =
      let a : motion_asked step_limit t m ≡ (Ok tt) = stopped_asked m (motion_asked step_limit t m) (cooled t m (advanced_by settled_of m)) h in
      let s : (advanced_by settled_of m).stopped ≡ true = ap (λ (o : Outcome). o.stopped) (sym (unless_on m (cooled t m (advanced_by settled_of m)) a)) ∙ h in
      let d : drifting m ≡ true = ⊎_elim (λ e. e) (λ e. absurd (false≢true (sym (advanced_off m e) ∙ s))) (true_or_false (drifting m)) in
      let f = landed_refused (moved m) (updated (moved m)).answer refl (ap (λ (o : Outcome). o.stopped) (sym (advanced_on m d)) ∙ s) in
      record {
        asked = a;
        drift = d;
        number = f.0;
        place = f.1;
        refusal = f.2;
        is = step_on a d ∙ ap (cooled t m) (landed_stopped (moved m) f.2) ∙ cooled_stopped (moved m) t m f.2;
      }

  -- finished: it passed its tests, and the list was brought up to date
  pub finish_asked : (finished_of t m).list.answer ≡ answered tt → motion_asked finish_limit t m ≡ Ok tt
  unfolding finished_of
  finish_asked h = answered_asked m (motion_asked finish_limit t m) (cooled t m (landed_by settled_of m)) h

  pub finish_on : motion_asked finish_limit t m ≡ Ok tt → finished_of t m ≡ cooled t m (landed_by settled_of m)
  unfolding finished_of
  finish_on a = unless_on m (cooled t m (landed_by settled_of m)) a

  pub finish_listed : (finished_of t m).list.answer ≡ answered tt → (updated m).answer ≡ answered tt
  finish_listed h =
      ap (λ (o : Update.Outcome). o.answer) (sym (landed_list m (updated m).answer refl))
      ∙ ap (λ (o : Outcome). o.list.answer) (sym (finish_on (finish_asked h)))
      ∙ h

  -- stopped: it passed its tests, the list was refused, and all but the list stands as it came
  pub halted_told : (finished_of t m).stopped ≡ true → Halted t m
  unfolding finished_of
  halted_told h =
      let a : motion_asked finish_limit t m ≡ (Ok tt) = stopped_asked m (motion_asked finish_limit t m) (cooled t m (landed_by settled_of m)) h in
      let f = landed_refused m (updated m).answer refl (ap (λ (o : Outcome). o.stopped) (sym (unless_on m (cooled t m (landed_by settled_of m)) a)) ∙ h) in
      record {
        asked = a;
        number = f.0;
        place = f.1;
        refusal = f.2;
        is = unless_on m (cooled t m (landed_by settled_of m)) a ∙ ap (cooled t m) (landed_stopped m f.2) ∙ cooled_stopped m t m f.2;
      }

  -- after its tests it answers or is stopped
  landing_ends : (a : Seen (Unit {0})) → (updated m).answer ≡ a → ((cooled t m (landed_by settled_of m)).list.answer ≡ answered tt) ⊎ ((cooled t m (landed_by settled_of m)).stopped ≡ true)
  landing_ends (answered u) h = inl (ap (λ (o : Update.Outcome). o.answer) (landed_list m (answered u) h) ∙ h)
  landing_ends (refused n p) h = inr (ap (λ (o : Outcome). o.stopped) (landed_stopped m h))

  pub finish_ends : motion_asked finish_limit t m ≡ Ok tt → ((finished_of t m).list.answer ≡ answered tt) ⊎ ((finished_of t m).stopped ≡ true)
  finish_ends a = rw (finish_on a) (landing_ends (updated m).answer refl)

-- ---- a landing from the state that an 8 leaves
module _ (m : Motion) where
  abbrev pub drained : Motion
  drained = motion m.dt (job m.job.terms (emptied m.job.given) m.job.forces) m.masses m.potential m.velocities

  after_again : (room : ℕ) (a : Seen (Unit {0})) (o : Update.Outcome) → after_list look_of room drained.job a o ≡ after_list look_of room m.job a o
  unfolding after_list total_of
  after_again room (answered u) o = refl
  after_again room (refused n p) o = refl

  landing_again : (a : Seen (Unit {0})) (e : Evaluation.Outcome) → landed_after drained a e ≡ landed_after m a e
  unfolding landed_after
  landing_again (answered u) e = refl
  landing_again (refused n p) e = refl

  pub lands_again : updated drained ≡ updated m → landed_by settled_of drained ≡ landed_by settled_of m
  unfolding landed_by settled_by
  lands_again e =
      let room = length m.job.forces in
      let settled : settled_of drained.job ≡ settled_of m.job =
      after_again room (updated drained).answer (updated drained) ∙ ap (λ (o : Update.Outcome). after_list look_of room m.job o.answer o) e in
      landing_again (settled_of drained.job).list.answer (settled_of drained.job) ∙ ap (λ (o : Evaluation.Outcome). landed_after m o.list.answer o) settled

-- ---- the positions stay as many
moved_length : (units : Units) (dt : Float) (fs ms xs vs : List Float) → length (moved_by units dt fs ms xs vs).0 ≡ length xs
unfolding moved_by moved_of
moved_length units dt fs ms xs vs =
    by_test (λ b. length (cond b (moved_of units dt fs ms xs vs) (xs, vs)).0 ≡ length xs) (move_fits fs ms xs vs) (λ _. drifted_length dt _ xs) (λ _. refl)

pub places_length : (m : Motion) → length (moved m).job.given.positions ≡ length m.job.given.positions
places_length m = moved_length (units_of m) m.dt m.job.forces m.masses m.job.given.positions m.velocities

-- a motion in rooms r, from a state
abbrev pub put_in : Motion → Rooms → State → Motion
put_in m r s = motion m.dt (job m.job.terms (given_in m.job.given s r) m.job.forces) m.masses m.potential m.velocities
