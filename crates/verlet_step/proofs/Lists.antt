-- What a step or a finishing call that built the list anew lists, said of the exit memory: demand 3. Assumes nothing.
use Rattle.std.specs.Prelude.{Err, Ok, Option, Result}
use Rattle.answer.specs.declared.Refusal.{Refusal}
use Rattle.verlet.specs.declared.Thermostat.{Thermostat}
use Prim.Native.Nat.{ℕ}
use mathlib.Core.Path.{◌≡◌, refl, sym, subst}
use mathlib.Core.Bool.{cond, false≢true}
use mathlib.Core.List.{List}
use lib.Ieee.{Float}
use Rattle.answer.specs.declared.Refusal.TheVariants.{Drifted}
use Rattle.answer.specs.Seen.{Seen, answered, refused}
use Rattle.lists.proofs.Cases.{by_test}
use Rattle.neighbor.specs.declared.Question.TheVariants.{Outdated}
use Rattle.neighbor.specs.Update as Update
use Rattle.neighbor.proofs.Demands.{Says, update_lists}
use Rattle.evaluate.specs.Calls.{settled_of}
use Rattle.evaluate.specs.Calls as Evaluation
use Rattle.verlet_step.proofs.Stopping.{updated, landed_list, drifting}
use Rattle.verlet_step.specs.declared.Stepped.{Stepped}
use Rattle.verlet_step.specs.Asked.{step_limit, finish_limit}
use Rattle.verlet_step.specs.Calls.{Motion, Outcome, all_stays, landed_after, landed_by, given_at, moved, advanced_by, cooled, motion_asked, unless, stepped_of, finished_of, StepSays, FinishSays, StepLists}

-- an outcome's list, over its positions
abbrev Lists : Motion → Outcome → Type 0
Lists m o = Says (given_at m.job.given o.positions) o.list

module _ (m : Motion) where
  after_stands : (a : Seen (Unit {0})) (e : Evaluation.Outcome) → (landed_after m a e).positions ≡ m.job.given.positions
  unfolding landed_after
  after_stands (answered u) e = refl
  after_stands (refused n p) e = refl

  landed_stands : (landed_by settled_of m).positions ≡ m.job.given.positions
  unfolding landed_by
  landed_stands = after_stands _ _

  landed_lists : Lists m (landed_by settled_of m)
  landed_lists =
      subst (λ (xs : List Float). Says (given_at m.job.given xs) (landed_by settled_of m).list) (sym landed_stands)
      (subst (λ (o : Update.Outcome). Says m.job.given o) (sym (landed_list m (updated m).answer refl)) (update_lists m.job.given Outdated))

advanced_lists : (m : Motion) → Lists m (advanced_by settled_of m)
unfolding advanced_by
advanced_lists m =
    by_test (λ b. Lists m (cond b (landed_by settled_of (moved m)) (all_stays m Drifted))) (drifting m) (λ _. landed_lists (moved m)) (λ _ q. absurd (false≢true q))

unless_lists : (m : Motion) (d : Result (Unit {0}) Refusal) (o : Outcome) → Lists m o → Lists m (unless m d o)
unfolding unless
unless_lists m (Err r) o h q = absurd (false≢true q)
unless_lists m (Ok tt) o h q = h q

-- DEMAND 3. What the outcome's equation says of a list built anew.
module _ (t : Option Thermostat) (m : Motion) (r : Stepped) {vs : List Float} {pairs : List ℕ} {references : List Float} {starts items : List ℕ} {forces : List Float} where
  pub stepped_lists : {xs : List Float} → StepSays t m r xs vs pairs references starts items forces → StepLists m r xs pairs
  unfolding stepped_of
  stepped_lists h = subst (Lists m) (sym h) (unless_lists m (motion_asked step_limit t m) (cooled t m (advanced_by settled_of m)) (advanced_lists m))

  pub finished_lists : FinishSays t m r vs pairs references starts items forces → StepLists m r m.job.given.positions pairs
  unfolding finished_of
  finished_lists h = subst (Lists m) (sym h) (unless_lists m (motion_asked finish_limit t m) (cooled t m (landed_by settled_of m)) (landed_lists m))
