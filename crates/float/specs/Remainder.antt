-- A float above zero as a whole multiple of the smallest value, 2 ^ -1074. Definitions only; nobody has to believe them, for the remainder is `rem` of the library.
use Rattle.std.specs.Prelude.{ℕ, ◌*◌, ◌^◌, ◌<◌, ◌≤◌, ◌≡◌, false, ◌⊎◌, Float}
use Rattle.std.specs.Float.{binary64}
use lib.Dec.{T}
use lib.Ieee.{fits}
use lib.Ieee.Exact.{HasValue}

-- x is a * 2 ^ q of the smallest values
unfoldable pub InUnits : Float → ℕ → ℕ → Type 0
InUnits x a q = HasValue x false (a * 2 ^ q) (2 ^ 1074)

-- the same as the bits have it: fewer than 2 ^ 53 digits, and all of them but where q is 0
pub record IsUnits (x : Float) (a q : ℕ) : Type 0 where
  pub value : InUnits x a q
  pub some : 0 < a
  pub short : a < 2 ^ 53
  pub few : q < 2046
  pub full : (q ≡ 0) ⊎ (2 ^ 52 ≤ a)

-- x is a * 2 ^ q of the smallest values, and a float
pub record IsPacked (x : Float) (a q : ℕ) : Type 0 where
  pub value : InUnits x a q
  pub fits : T (fits binary64 x)
