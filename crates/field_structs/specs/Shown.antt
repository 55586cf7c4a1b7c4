-- What an exported function says: its struct stands for an answer of which the wrapped call's own relation holds. Definitions only.
use Rattle.std.specs.Prelude.{◌≡◌}

-- the struct r is an answer handed over, and the call says this of that answer
pub record Shown {A F : Type 0} (flat : A → F) (Says : A → Type 0) (r : F) : Type 0 where
  pub answer : A
  pub handed : r ≡ flat answer
  pub says : Says answer
