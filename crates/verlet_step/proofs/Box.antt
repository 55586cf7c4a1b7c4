-- Where a step or a finishing call keeps the list, the cell is the one that it was built in. Assumes nothing.
use Rattle.std.specs.Prelude.{Err, Ok, Option, Result}
use Rattle.answer.specs.declared.Refusal.{Refusal}
use Rattle.verlet.specs.declared.Thermostat.{Thermostat}
use Prim.Native.Nat.{ℕ}
use native.Mathlib.Omega.{arith}
use mathlib.Core.Path.{◌≡◌, refl, sym, ap, subst, ◌∙◌}
use mathlib.Core.Bool.{cond}
use mathlib.Core.List.{List}
use lib.Ieee.{Float}
use Rattle.answer.specs.declared.Refusal.TheVariants.{Drifted}
use Rattle.answer.specs.Seen.{Seen, answered, refused, seen}
use Rattle.lists.proofs.Cases.{by_test}
use Rattle.neighbor.specs.Update as Update
use Rattle.neighbor.specs.Box.{KeptInBox}
use Rattle.neighbor.proofs.Box.{update_keeps}
use Rattle.evaluate.specs.Calls.{settled_of}
use Rattle.verlet_step.proofs.Stopping.{updated, landed_list, drifting}
use Rattle.verlet_step.specs.declared.Stepped.{Stepped}
use Rattle.verlet_step.specs.Asked.{step_limit, finish_limit}
use Rattle.verlet_step.specs.Calls.{Motion, Outcome, all_stays, landed_by, moved, advanced_by, cooled, motion_asked, unless, stepped_of, finished_of, StepSays, FinishSays, StepKeeps}

never : {A : Type 0} {n p : ℕ} → ◌≡◌ {A = Seen (Unit {0})} (refused n p) (answered tt) → A
never e = let z : ◌≡◌ {A = ℕ} 0 1 = cc in absurd (omega arith)

-- a drift changes neither the cell nor what is remembered
abbrev Keeps : Motion → Outcome → Type 0
Keeps m o = KeptInBox m.job.given o.list

landed_keeps : (m : Motion) → Keeps m (landed_by settled_of m)
landed_keeps m = subst (λ (o : Update.Outcome). KeptInBox m.job.given o) (sym (landed_list m (updated m).answer refl)) (update_keeps m.job.given)

advanced_keeps : (m : Motion) → Keeps m (advanced_by settled_of m)
unfolding advanced_by
advanced_keeps m =
    by_test (λ b. Keeps m (cond b (landed_by settled_of (moved m)) (all_stays m Drifted))) (drifting m) (λ _. landed_keeps (moved m)) (λ _ h _. never h)

unless_keeps : (m : Motion) (d : Result (Unit {0}) Refusal) (o : Outcome) → Keeps m o → Keeps m (unless m d o)
unfolding unless
unless_keeps m (Err r) o h = λ e _. never e
unless_keeps m (Ok tt) o h = h

-- THEOREM (02, No. 6).
module _ (t : Option Thermostat) (m : Motion) (r : Stepped) {vs : List Float} {pairs : List ℕ} {references : List Float} {starts items : List ℕ} {forces : List Float} where
  pub stepped_keeps : {xs : List Float} → StepSays t m r xs vs pairs references starts items forces → StepKeeps m r
  unfolding stepped_of
  stepped_keeps h done kept =
      unless_keeps m (motion_asked step_limit t m) (cooled t m (advanced_by settled_of m)) (advanced_keeps m)
      (ap (λ (o : Outcome). o.list.answer) (sym h) ∙ ap seen done)
      (ap (λ (o : Outcome). o.list.rebuilt) (sym h) ∙ kept)

  pub finished_keeps : FinishSays t m r vs pairs references starts items forces → StepKeeps m r
  unfolding finished_of
  finished_keeps h done kept =
      unless_keeps m (motion_asked finish_limit t m) (cooled t m (landed_by settled_of m)) (landed_keeps m)
      (ap (λ (o : Outcome). o.list.answer) (sym h) ∙ ap seen done)
      (ap (λ (o : Outcome). o.list.rebuilt) (sym h) ∙ kept)
