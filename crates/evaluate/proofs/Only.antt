-- No second answer and no second memory fits the contract of `evaluate`. Assumes nothing.
use Prim.Native.Nat.{ℕ}
use mathlib.Core.Path.{◌≡◌, sym, ap, ◌∙◌}
use mathlib.Core.List.{List}
use lib.Ieee.{Float}
use Rattle.answer.proofs.Only.{seen_only}
use Rattle.evaluate.specs.declared.Evaluated.{Evaluated}
use Rattle.evaluate.specs.Calls.{Job, Outcome, shown, EvaluateSays}

module _ (j : Job) (r r' : Evaluated) (pairs pairs' : List ℕ) (references references' : List Float) (starts starts' items items' : List ℕ) (forces forces' : List Float)
    (h : EvaluateSays j r pairs references starts items forces) (k : EvaluateSays j r' pairs' references' starts' items' forces') where
  same : shown r pairs references starts items forces ≡ shown r' pairs' references' starts' items' forces'
  same = h ∙ sym k

  answers : r ≡ r'
  answers =
      let d = seen_only r.done r'.done (ap (λ (o : Outcome). o.list.answer) same) in
      λ i. record { done = d i; rebuilt = (same i).list.rebuilt; state = (same i).list.state; sum = (same i).total.sum }

  pub evaluate_only : (r ≡ r') × (pairs ≡ pairs') × (references ≡ references') × (starts ≡ starts') × (items ≡ items') × (forces ≡ forces')
  evaluate_only = (
    answers,
    ap (λ (o : Outcome). o.list.pairs) same,
    ap (λ (o : Outcome). o.list.references) same,
    ap (λ (o : Outcome). o.list.starts) same,
    ap (λ (o : Outcome). o.list.items) same,
    ap (λ (o : Outcome). o.total.forces) same,
  )
