-- For each input one answer: no second one fits what a public call promises. Assumes nothing.
use Rattle.std.specs.Prelude.{Result}
use Rattle.answer.specs.declared.Refusal.{Refusal}
use mathlib.Core.Path.{◌≡◌, sym, ◌∙◌}
use mathlib.Core.List.{List}
use Prim.Native.Nat.{ℕ}
use Rattle.answer.proofs.Only.{seen_only}
use Rattle.bins.specs.Sort.{AtomsAskedSays}

pub asked_only : (cell : ℕ) (starts items : List ℕ) (r s : Result (Unit {0}) Refusal) → AtomsAskedSays cell starts items r → AtomsAskedSays cell starts items s → r ≡ s
asked_only cell starts items r s h k = seen_only r s (h ∙ sym k)
