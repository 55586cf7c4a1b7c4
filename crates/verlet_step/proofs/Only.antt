-- No second answer and no second memory fits the contract of `step` or of `finish`. Assumes nothing.
use Rattle.std.specs.Prelude.{Option}
use Rattle.verlet.specs.declared.Thermostat.{Thermostat}
use Prim.Native.Nat.{ℕ}
use mathlib.Core.Path.{◌≡◌, sym, ap, ◌∙◌}
use mathlib.Core.List.{List}
use lib.Ieee.{Float}
use Rattle.answer.proofs.Only.{seen_only}
use Rattle.verlet_step.specs.declared.Stepped.{Stepped}
use Rattle.verlet_step.specs.Calls.{Motion, Outcome, shown, StepSays, FinishSays}

module _ {r r' : Stepped} {xs xs' vs vs' : List Float} {pairs pairs' : List ℕ} {references references' : List Float} {starts starts' items items' : List ℕ} {forces forces' : List Float}
    (same : shown r xs vs pairs references starts items forces ≡ shown r' xs' vs' pairs' references' starts' items' forces') where
  answers : r ≡ r'
  answers =
      let d = seen_only r.done r'.done (ap (λ (o : Outcome). o.list.answer) same) in
      λ i. record { done = d i; stopped = (same i).stopped; rebuilt = (same i).list.rebuilt; state = (same i).list.state; potential = (same i).potential }

  shown_only : (r ≡ r') × (xs ≡ xs') × (vs ≡ vs') × (pairs ≡ pairs') × (references ≡ references') × (starts ≡ starts') × (items ≡ items') × (forces ≡ forces')
  shown_only = (
    answers,
    ap (λ (o : Outcome). o.positions) same,
    ap (λ (o : Outcome). o.velocities) same,
    ap (λ (o : Outcome). o.list.pairs) same,
    ap (λ (o : Outcome). o.list.references) same,
    ap (λ (o : Outcome). o.list.starts) same,
    ap (λ (o : Outcome). o.list.items) same,
    ap (λ (o : Outcome). o.forces) same,
  )

module _ (t : Option Thermostat) (m : Motion) (r r' : Stepped) (vs vs' : List Float) (pairs pairs' : List ℕ) (references references' : List Float) (starts starts' items items' : List ℕ)
    (forces forces' : List Float) where
  pub step_only : (xs xs' : List Float) → StepSays t m r xs vs pairs references starts items forces → StepSays t m r' xs' vs' pairs' references' starts' items' forces'
      → (r ≡ r') × (xs ≡ xs') × (vs ≡ vs') × (pairs ≡ pairs') × (references ≡ references') × (starts ≡ starts') × (items ≡ items') × (forces ≡ forces')
  step_only xs xs' h k = shown_only (h ∙ sym k)

  pub finish_only : FinishSays t m r vs pairs references starts items forces → FinishSays t m r' vs' pairs' references' starts' items' forces'
      → (r ≡ r') × (vs ≡ vs') × (pairs ≡ pairs') × (references ≡ references') × (starts ≡ starts') × (items ≡ items') × (forces ≡ forces')
  finish_only h k = let o = shown_only (h ∙ sym k) in (o.0, o.2, o.3, o.4, o.5, o.6, o.7)
