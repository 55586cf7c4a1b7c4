-- A test's two cases, for one conclusion. Assumes nothing.
use mathlib.Core.Path.{◌≡◌}
use mathlib.Core.Bool.{Bool, true, false}
use Rattle.lists.proofs.Cases.{by_test}

pub cases : {C : Type 0} (b : Bool) → (b ≡ true → C) → (b ≡ false → C) → C
cases {C} b f g = by_test (λ t. C) b f g
