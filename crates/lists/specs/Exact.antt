-- What it means that a list holds exactly certain things, each once. Definitions only.
use mathlib.Core.List.{List, [], ◌∷◌, Memᴰ}

-- a stands in l
infix 4 ◌∈◌
abbrev pub ◌∈◌ : {A : Type 0} → A → List A → Type 0
a ∈ l = Memᴰ a l

-- no element stands twice
abbrev pub Once : {A : Type 0} → List A → Type 0
Once [] = Unit {0}
Once (a ∷ l) = (a ∈ l → ⊥) × Once l

-- the list holds what has P, nothing else, and nothing twice
pub record Exactly {A : Type 0} (P : A → Type 0) (l : List A) : Type 0 where
  pub sound : (a : A) → a ∈ l → P a
  pub complete : (a : A) → P a → a ∈ l
  pub once : Once l
