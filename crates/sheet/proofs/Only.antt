-- For each input one answer and one memory: no second triple of these fits what `read` promises. Assumes nothing.
use Rattle.answer.specs.Seen.{seen}
use Rattle.std.specs.Prelude.{Result}
use Rattle.answer.specs.declared.Refusal.{Refusal}
use Rattle.sheet.specs.declared.Job.{Job}
use Rattle.sheet.specs.declared.two.RuledJob.{RuledJob}
use mathlib.Core.Path.{◌≡◌, sym, ap, ◌∙◌}
use mathlib.Core.List.{List}
use Prim.Native.Nat.{ℕ}
use Rattle.answer.proofs.Only.{seen_only}
use Rattle.sheet.specs.Read.{Outcome, read_of, ReadSays}
use Rattle.sheet.specs.ReadTwo.{OutcomeTwo, read_two_of, ReadTwoSays}

-- the answer and the memory of an outcome
told : (r t : Result Job Refusal) (co₁ ex₁ co₂ ex₂ : List ℕ) (o : Outcome) → record { shown = seen r; coordinates = co₁; exclusions = ex₁ } ≡ o → record { shown = seen t; coordinates = co₂; exclusions = ex₂ } ≡ o → (r ≡ t) × (co₁ ≡ co₂) × (ex₁ ≡ ex₂)
told r t co₁ ex₁ co₂ ex₂ o p q = (
  seen_only r t (ap (λ (x : Outcome). x.shown) (p ∙ sym q)),
  ap (λ (x : Outcome). x.coordinates) (p ∙ sym q),
  ap (λ (x : Outcome). x.exclusions) (p ∙ sym q),
)

pub read_only : (s co ex : List ℕ) (r t : Result Job Refusal) (co₁ ex₁ co₂ ex₂ : List ℕ) → ReadSays s co ex r co₁ ex₁ → ReadSays s co ex t co₂ ex₂ → (r ≡ t) × (co₁ ≡ co₂) × (ex₁ ≡ ex₂)
read_only s co ex r t co₁ ex₁ co₂ ex₂ p q = told r t co₁ ex₁ co₂ ex₂ (read_of s co ex) p q

-- the same of `read_two`
told_two : (r t : Result RuledJob Refusal) (co₁ sp₁ ex₁ co₂ sp₂ ex₂ : List ℕ) (o : OutcomeTwo) → record { shown = seen r; coordinates = co₁; species = sp₁; exclusions = ex₁ } ≡ o → record { shown = seen t; coordinates = co₂; species = sp₂; exclusions = ex₂ } ≡ o → (r ≡ t) × (co₁ ≡ co₂) × (sp₁ ≡ sp₂) × (ex₁ ≡ ex₂)
told_two r t co₁ sp₁ ex₁ co₂ sp₂ ex₂ o p q = (
  seen_only r t (ap (λ (x : OutcomeTwo). x.shown) (p ∙ sym q)),
  ap (λ (x : OutcomeTwo). x.coordinates) (p ∙ sym q),
  ap (λ (x : OutcomeTwo). x.species) (p ∙ sym q),
  ap (λ (x : OutcomeTwo). x.exclusions) (p ∙ sym q),
)

pub read_two_only : (s co sp ex : List ℕ) (r t : Result RuledJob Refusal) (co₁ sp₁ ex₁ co₂ sp₂ ex₂ : List ℕ) → ReadTwoSays s co sp ex r co₁ sp₁ ex₁ → ReadTwoSays s co sp ex t co₂ sp₂ ex₂ → (r ≡ t) × (co₁ ≡ co₂) × (sp₁ ≡ sp₂) × (ex₁ ≡ ex₂)
read_two_only s co sp ex r t co₁ sp₁ ex₁ co₂ sp₂ ex₂ p q = told_two r t co₁ sp₁ ex₁ co₂ sp₂ ex₂ (read_two_of s co sp ex) p q
