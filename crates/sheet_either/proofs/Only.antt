-- For each input one answer and one memory fit what `read_either` promises. Assumes nothing.
use Rattle.answer.specs.Seen.{seen}
use Rattle.std.specs.Prelude.{Result}
use Rattle.answer.specs.declared.Refusal.{Refusal}
use Rattle.sheet_either.specs.declared.Formed.{Formed}
use Prim.Native.Nat.{ℕ}
use mathlib.Core.Path.{◌≡◌, sym, ap, ◌∙◌}
use mathlib.Core.List.{List}
use Rattle.answer.proofs.Only.{seen_only}
use Rattle.sheet_either.specs.Either.{Outcome, either_of, EitherSays}

told : (r t : Result Formed Refusal) (co₁ sp₁ ex₁ co₂ sp₂ ex₂ : List ℕ) (o : Outcome) → record { shown = seen r; coordinates = co₁; species = sp₁; exclusions = ex₁ } ≡ o → record { shown = seen t; coordinates = co₂; species = sp₂; exclusions = ex₂ } ≡ o → (r ≡ t) × (co₁ ≡ co₂) × (sp₁ ≡ sp₂) × (ex₁ ≡ ex₂)
told r t co₁ sp₁ ex₁ co₂ sp₂ ex₂ o p q = (
  seen_only r t (ap (λ (x : Outcome). x.shown) (p ∙ sym q)),
  ap (λ (x : Outcome). x.coordinates) (p ∙ sym q),
  ap (λ (x : Outcome). x.species) (p ∙ sym q),
  ap (λ (x : Outcome). x.exclusions) (p ∙ sym q),
)

pub read_either_only : (s co sp ex : List ℕ) (r t : Result Formed Refusal) (co₁ sp₁ ex₁ co₂ sp₂ ex₂ : List ℕ) → EitherSays s co sp ex r co₁ sp₁ ex₁ → EitherSays s co sp ex t co₂ sp₂ ex₂ → (r ≡ t) × (co₁ ≡ co₂) × (sp₁ ≡ sp₂) × (ex₁ ≡ ex₂)
read_either_only s co sp ex r t co₁ sp₁ ex₁ co₂ sp₂ ex₂ p q = told r t co₁ sp₁ ex₁ co₂ sp₂ ex₂ (either_of s co sp ex) p q
