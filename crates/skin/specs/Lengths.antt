-- Laws of lengths in whole numbers, without roots: what the skin's theorem rests on. Definitions only.
use Rattle.std.specs.Prelude.{ℕ, ◌+◌, ◌*◌, ◌≤◌, ◌<◌, ◌≡◌}
use Rattle.frame.specs.declared.Side.{Side}
use Rattle.frame.specs.Distance.{along, square_of}

-- The distance along an axis, periodic or open, is a metric on its coordinates.
pub record Metric (e : Side) : Type 0 where
  pub none : (a : ℕ) → along e a a ≡ 0
  pub apart : (a b : ℕ) → a < e.edge → b < e.edge → along e a b ≡ 0 → a ≡ b
  pub turned : (a b : ℕ) → along e a b ≡ along e b a
  pub triangle : (a b c : ℕ) → a < e.edge → b < e.edge → c < e.edge → along e a c ≤ along e a b + along e b c

-- three numbers' squared length, and how far they go along three others
abbrev pub length_squared : ℕ → ℕ → ℕ → ℕ
length_squared a b c = square_of a + square_of b + square_of c

abbrev pub alongside : ℕ → ℕ → ℕ → ℕ → ℕ → ℕ → ℕ
alongside a b c x y z = a * x + b * y + c * z

-- Cauchy and Schwarz
abbrev pub CauchySchwarz : Type 0
CauchySchwarz = (a b c x y z : ℕ) → square_of (alongside a b c x y z) ≤ length_squared a b c * length_squared x y z

-- Minkowski: two lengths within two numbers are together within their sum
abbrev pub Minkowski : Type 0
Minkowski =
    (a b c x y z m n : ℕ) → length_squared a b c ≤ square_of m → length_squared x y z ≤ square_of n → length_squared (a + x) (b + y) (c + z) ≤ square_of (m + n)
