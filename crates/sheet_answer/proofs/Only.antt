-- For each input one answer and one memory: no second pair of these fits what `solve`, `solve_either` and `list` promise. Assumes nothing.
use Rattle.std.specs.Prelude.{Result}
use Rattle.answer.specs.declared.Refusal.{Refusal}
use Rattle.sheet_answer.specs.declared.SheetList.{SheetList}
use mathlib.Core.Path.{◌≡◌, sym, ap, ◌∙◌}
use mathlib.Core.List.{List}
use Prim.Native.Nat.{ℕ}
use Rattle.answer.specs.Seen.{seen}
use Rattle.answer.proofs.Only.{seen_only}
use Rattle.sheet_answer.specs.List.{ListOutcome, sheet_list_of, ListSays}
use Rattle.sheet_answer.specs.Solve.{Outcome, solve_of, SolveSays}
use Rattle.sheet_answer.specs.Either.{solve_either_of, SolveEitherSays}

told : (r t : Result ℕ Refusal) (u v : List ℕ) (o : Outcome) → record { shown = seen r; out = u } ≡ o → record { shown = seen t; out = v } ≡ o → (r ≡ t) × (u ≡ v)
told r t u v o p q = (seen_only r t (ap (λ (x : Outcome). x.shown) (p ∙ sym q)), ap (λ (x : Outcome). x.out) (p ∙ sym q))

pub solve_only : (s out : List ℕ) (r t : Result ℕ Refusal) (u v : List ℕ) → SolveSays s out r u → SolveSays s out t v → (r ≡ t) × (u ≡ v)
solve_only s out r t u v p q = told r t u v (solve_of s out) p q

pub solve_either_only : (s out : List ℕ) (r t : Result ℕ Refusal) (u v : List ℕ) → SolveEitherSays s out r u → SolveEitherSays s out t v → (r ≡ t) × (u ≡ v)
solve_either_only s out r t u v p q = told r t u v (solve_either_of s out) p q

told_list : (r t : Result SheetList Refusal) (u v : List ℕ) (o : ListOutcome) → record { shown = seen r; pairs = u } ≡ o → record { shown = seen t; pairs = v } ≡ o → (r ≡ t) × (u ≡ v)
told_list r t u v o p q = (seen_only r t (ap (λ (x : ListOutcome). x.shown) (p ∙ sym q)), ap (λ (x : ListOutcome). x.pairs) (p ∙ sym q))

pub list_only : (s pairs : List ℕ) (r t : Result SheetList Refusal) (u v : List ℕ) → ListSays s pairs r u → ListSays s pairs t v → (r ≡ t) × (u ≡ v)
list_only s pairs r t u v p q = told_list r t u v (sheet_list_of s pairs) p q
