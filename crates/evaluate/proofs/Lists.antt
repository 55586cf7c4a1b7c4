-- What an evaluation that built the list anew lists, said of the exit memory: demand 3. Assumes nothing.
use Rattle.std.specs.Prelude.{Err, Ok, Result}
use Rattle.answer.specs.declared.Refusal.{Refusal}
use Prim.Native.Nat.{ℕ}
use mathlib.Core.Path.{sym, ap, subst}
use mathlib.Core.Bool.{true, false≢true}
use mathlib.Core.List.{List}
use lib.Ieee.{Float}
use lib.ListN.{length}
use Rattle.potentials_pair.specs.Species.{look_of}
use Rattle.neighbor.specs.declared.Question.TheVariants.{Outdated}
use Rattle.neighbor.specs.Update as Update
use Rattle.neighbor.proofs.Demands.{Says, update_lists}
use Rattle.evaluate.proofs.Settling.{settled_list}
use Rattle.evaluate.specs.declared.Evaluated.{Evaluated}
use Rattle.evaluate.specs.Calls.{Job, Outcome, asked_of, after_asked, evaluated_of, EvaluateSays, EvaluateLists}

asked_lists : (j : Job) (d : Result (Unit {0}) Refusal) → Says j.given (after_asked j d).list
unfolding after_asked
asked_lists j (Err r) q = absurd (false≢true q)
asked_lists j (Ok tt) q = subst (λ (o : Update.Outcome). Says j.given o) (sym (settled_list look_of (length j.forces) j)) (update_lists j.given Outdated) q

-- DEMAND 3. What the outcome's equation says of a list built anew.
pub evaluated_lists : (j : Job) (r : Evaluated) {pairs : List ℕ} {references : List Float} {starts items : List ℕ} {forces : List Float} → EvaluateSays j r pairs references starts items forces → EvaluateLists j r pairs
unfolding evaluated_of
evaluated_lists j r h = subst (λ (o : Update.Outcome). Says j.given o) (sym (ap (λ (o : Outcome). o.list) h)) (asked_lists j (asked_of true true j))
