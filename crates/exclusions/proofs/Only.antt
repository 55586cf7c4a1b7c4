-- For each input one answer and one memory: no second pair of these fits what a public call promises. Assumes nothing.
use Rattle.std.specs.Prelude.{Result}
use Rattle.answer.specs.declared.Refusal.{Refusal}
use mathlib.Core.Path.{◌≡◌, sym, ap, ◌∙◌}
use mathlib.Core.List.{List}
use Prim.Native.Nat.{ℕ}
use Rattle.answer.specs.Seen.{seen}
use Rattle.answer.proofs.Only.{seen_only}
use Rattle.exclusions.specs.Calls.{Outcome, ExcludeSays, SetSays, ExcludedRowsAskedSays}

-- the answer and the memory of an outcome
told : (r s : Result ℕ Refusal) (t u : List ℕ) (o : Outcome) → record { shown = seen r; table = t } ≡ o → record { shown = seen s; table = u } ≡ o → (r ≡ s) × (t ≡ u)
told r s t u o h k =
    (seen_only r s (ap (λ (x : Outcome). x.shown) (h ∙ sym k)), ap (λ (x : Outcome). x.table) (h ∙ sym k))

pub exclude_only : (count i j : ℕ) (t : List ℕ) (r s : Result ℕ Refusal) (u v : List ℕ) → ExcludeSays count i j t r u → ExcludeSays count i j t s v → (r ≡ s) × (u ≡ v)
exclude_only count i j t r s u v h k = told r s u v _ h k

pub set_only : (raw t : List ℕ) (r s : Result ℕ Refusal) (u v : List ℕ) → SetSays raw t r u → SetSays raw t s v → (r ≡ s) × (u ≡ v)
set_only raw t r s u v h k = told r s u v _ h k

pub asked_only : (count : ℕ) (t : List ℕ) (r s : Result (Unit {0}) Refusal) → ExcludedRowsAskedSays count t r → ExcludedRowsAskedSays count t s → r ≡ s
asked_only count t r s h k = seen_only r s (h ∙ sym k)
