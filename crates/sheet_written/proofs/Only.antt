-- For each input one answer and one memory: no second pair of these fits what `write` and `write_two` promise. Assumes nothing.
use Rattle.std.specs.Prelude.{Result}
use Rattle.answer.specs.declared.Refusal.{Refusal}
use mathlib.Core.Path.{◌≡◌, sym, ap, ◌∙◌}
use mathlib.Core.List.{List}
use Prim.Native.Nat.{ℕ}
use Rattle.answer.specs.Seen.{seen}
use Rattle.answer.proofs.Only.{seen_only}
use Rattle.frame.specs.declared.Frame.{Frame}
use Rattle.sheet_written.specs.Write.{Outcome, write_of, WriteSays}
use Rattle.sheet_written.specs.WrittenTwo.{write_two_of, WriteTwoSays}

told : (r t : Result ℕ Refusal) (u v : List ℕ) (o : Outcome) → record { shown = seen r; out = u } ≡ o → record { shown = seen t; out = v } ≡ o → (r ≡ t) × (u ≡ v)
told r t u v o p q = (seen_only r t (ap (λ (x : Outcome). x.shown) (p ∙ sym q)), ap (λ (x : Outcome). x.out) (p ∙ sym q))

pub write_only : (f : Frame) (xs table out : List ℕ) (r t : Result ℕ Refusal) (u v : List ℕ) → WriteSays f xs table out r u → WriteSays f xs table out t v → (r ≡ t) × (u ≡ v)
write_only f xs table out r t u v p q = told r t u v (write_of f xs table out) p q

pub write_two_only : (f : Frame) (xs table out : List ℕ) (r t : Result ℕ Refusal) (u v : List ℕ) → WriteTwoSays f xs table out r u → WriteTwoSays f xs table out t v → (r ≡ t) × (u ≡ v)
write_two_only f xs table out r t u v p q = told r t u v (write_two_of f xs table out) p q
