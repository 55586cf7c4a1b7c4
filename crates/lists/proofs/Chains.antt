-- What std says of a chain over a slice, in this crate's words. Assumes nothing.
use mathlib.Core.Path.{◌≡◌, refl, ap}
use mathlib.Core.Bool.{Bool, ◌&&◌}
use mathlib.Core.List.{List, [], ◌∷◌}
use Rattle.std.specs.List.{list_all}
use Rattle.lists.specs.Lists.{every}

-- `xs.iter().all(p)`
pub all_every : {A : Type 0} (p : A → Bool) (l : List A) → list_all p l ≡ every p l
unfolding every
all_every p [] = refl
all_every p (a ∷ l) = ap (λ b. p a && b) (all_every p l)
