-- For each input one answer and one memory: no second pair of these fits what `label` promises. Assumes nothing.
use Rattle.std.specs.Prelude.{Result}
use Rattle.answer.specs.declared.Refusal.{Refusal}
use Prim.Native.Nat.{ℕ}
use mathlib.Core.Path.{◌≡◌, sym, ap, ◌∙◌}
use mathlib.Core.List.{List}
use Rattle.answer.specs.Seen.{seen}
use Rattle.answer.proofs.Only.{seen_only}
use Rattle.clumps_label.specs.Label.{Outcome, label_of, LabelSays}

told : (r t : Result ℕ Refusal) (u v : List ℕ) (o : Outcome) → record { shown = seen r; labels = u } ≡ o → record { shown = seen t; labels = v } ≡ o → (r ≡ t) × (u ≡ v)
told r t u v o p q = (seen_only r t (ap (λ (x : Outcome). x.shown) (p ∙ sym q)), ap (λ (x : Outcome). x.labels) (p ∙ sym q))

pub label_only : (count : ℕ) (pairs labels : List ℕ) (r t : Result ℕ Refusal) (u v : List ℕ) → LabelSays count pairs labels r u → LabelSays count pairs labels t v → (r ≡ t) × (u ≡ v)
label_only count pairs labels r t u v p q = told r t u v (label_of count pairs labels) p q
