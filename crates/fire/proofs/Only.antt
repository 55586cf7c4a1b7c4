-- No second answer and no second memory fits the contract of `fire`. Assumes nothing.
use Prim.Native.Nat.{ℕ}
use mathlib.Core.Path.{◌≡◌, sym, ap, ◌∙◌}
use mathlib.Core.List.{List}
use lib.Ieee.{Float}
use Rattle.answer.proofs.Only.{seen_only}
use Rattle.verlet_step.specs.Calls.{Motion}
use Rattle.fire.specs.declared.FireOptions.{FireOptions}
use Rattle.fire.specs.declared.Fired.{Fired}
use Rattle.fire.specs.Calls.{Outcome, shown, FireSays}

module _ {r r' : Fired} {xs xs' vs vs' : List Float} {pairs pairs' : List ℕ} {references references' : List Float} {starts starts' items items' : List ℕ} {forces forces' : List Float}
    (same : shown r xs vs pairs references starts items forces ≡ shown r' xs' vs' pairs' references' starts' items' forces') where
  answers : r ≡ r'
  answers =
      let d = seen_only r.done r'.done (ap (λ (o : Outcome). o.answer) same) in
      λ i. record { done = d i; iteration = (same i).iteration; stopped = (same i).stopped; converged = (same i).converged; energy = (same i).energy; max_force = (same i).largest; state = (same i).state }

  shown_only : (r ≡ r') × (xs ≡ xs') × (vs ≡ vs') × (pairs ≡ pairs') × (references ≡ references') × (starts ≡ starts') × (items ≡ items') × (forces ≡ forces')
  shown_only = (
    answers,
    ap (λ (o : Outcome). o.positions) same,
    ap (λ (o : Outcome). o.velocities) same,
    ap (λ (o : Outcome). o.pairs) same,
    ap (λ (o : Outcome). o.references) same,
    ap (λ (o : Outcome). o.starts) same,
    ap (λ (o : Outcome). o.items) same,
    ap (λ (o : Outcome). o.forces) same,
  )

pub fire_only : (o : FireOptions) (m : Motion) (r r' : Fired) (xs xs' vs vs' : List Float) (pairs pairs' : List ℕ) (references references' : List Float) (starts starts' items items' : List ℕ)
    (forces forces' : List Float) → FireSays o m r xs vs pairs references starts items forces → FireSays o m r' xs' vs' pairs' references' starts' items' forces'
    → (r ≡ r') × (xs ≡ xs') × (vs ≡ vs') × (pairs ≡ pairs') × (references ≡ references') × (starts ≡ starts') × (items ≡ items') × (forces ≡ forces')
fire_only o m r r' xs xs' vs vs' pairs pairs' references references' starts starts' items items' forces forces' h k = shown_only (h ∙ sym k)
