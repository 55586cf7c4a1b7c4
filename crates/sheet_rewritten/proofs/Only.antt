-- For each input one answer and one memory: no second pair of these fits what `rewrite` promises. Assumes nothing.
use Rattle.std.specs.Prelude.{Result}
use Rattle.answer.specs.declared.Refusal.{Refusal}
use mathlib.Core.Path.{◌≡◌, sym, ap, ◌∙◌}
use mathlib.Core.List.{List}
use Prim.Native.Nat.{ℕ}
use Rattle.answer.specs.Seen.{seen}
use Rattle.answer.proofs.Only.{seen_only}
use Rattle.sheet_rewritten.specs.Rewrite.{Outcome, rewrite_of, RewriteSays}

told : (r t : Result ℕ Refusal) (u v : List ℕ) (o : Outcome) → record { shown = seen r; out = u } ≡ o → record { shown = seen t; out = v } ≡ o → (r ≡ t) × (u ≡ v)
told r t u v o p q = (seen_only r t (ap (λ (x : Outcome). x.shown) (p ∙ sym q)), ap (λ (x : Outcome). x.out) (p ∙ sym q))

pub rewrite_only : (s out : List ℕ) (r t : Result ℕ Refusal) (u v : List ℕ) → RewriteSays s out r u → RewriteSays s out t v → (r ≡ t) × (u ≡ v)
rewrite_only s out r t u v p q = told r t u v (rewrite_of s out) p q
