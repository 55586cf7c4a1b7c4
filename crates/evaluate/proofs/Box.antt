-- Where an evaluation keeps the list, the cell is the one that it was built in. Assumes nothing.
use Rattle.std.specs.Prelude.{Err, Ok, Result}
use Rattle.answer.specs.declared.Refusal.{Refusal}
use Prim.Native.Nat.{ℕ}
use native.Mathlib.Omega.{arith}
use mathlib.Core.Path.{◌≡◌, sym, ap, subst, ◌∙◌}
use mathlib.Core.Bool.{true}
use mathlib.Core.List.{List}
use lib.Ieee.{Float}
use lib.ListN.{length}
use Rattle.answer.specs.Seen.{Seen, answered, refused, seen}
use Rattle.potentials_pair.specs.Species.{look_of}
use Rattle.neighbor.specs.Update as Update
use Rattle.neighbor.specs.Box.{KeptInBox}
use Rattle.neighbor.proofs.Box.{update_keeps}
use Rattle.evaluate.proofs.Settling.{settled_list}
use Rattle.evaluate.specs.declared.Evaluated.{Evaluated}
use Rattle.evaluate.specs.Calls.{Job, Outcome, asked_of, after_asked, evaluated_of, EvaluateSays, EvaluateKeeps}

never : {A : Type 0} {n p : ℕ} → ◌≡◌ {A = Seen (Unit {0})} (refused n p) (answered tt) → A
never e = let z : ◌≡◌ {A = ℕ} 0 1 = cc in absurd (omega arith)

asked_keeps : (j : Job) (d : Result (Unit {0}) Refusal) → KeptInBox j.given (after_asked j d).list
unfolding after_asked
asked_keeps j (Err r) = λ h _. never h
asked_keeps j (Ok tt) = subst (λ (o : Update.Outcome). KeptInBox j.given o) (sym (settled_list look_of (length j.forces) j)) (update_keeps j.given)

-- THEOREM (02, No. 6).
pub evaluated_keeps : (j : Job) (r : Evaluated) {pairs : List ℕ} {references : List Float} {starts items : List ℕ} {forces : List Float} → EvaluateSays j r pairs references starts items forces → EvaluateKeeps j r
unfolding evaluated_of
evaluated_keeps j r h done kept =
    asked_keeps j (asked_of true true j) (ap (λ (o : Outcome). o.list.answer) (sym h) ∙ ap seen done) (ap (λ (o : Outcome). o.list.rebuilt) (sym h) ∙ kept)
