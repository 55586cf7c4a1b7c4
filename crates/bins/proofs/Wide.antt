-- Numbers of sixteen bits: their products fit. Assumes nothing.
use Prim.Native.Nat.{ℕ, ◌*◌, ◌≤◌, ◌<◌}
use native.Mathlib.Nat.{mul-le-mul}
use native.Mathlib.Omega.{arith}

pub two_wide : (a b : ℕ) → a < 65536 → b < 65536 → a * b ≤ 4294836225
two_wide a b h k = mul-le-mul {n₁ = a} {m₁ = b} {n₂ = 65535} {m₂ = 65535} (omega arith) (omega arith)

pub more_wide : (a b : ℕ) → a ≤ 4294967295 → b < 65536 → a * b ≤ 281470681677825
more_wide a b h k = mul-le-mul {n₁ = a} {m₁ = b} {n₂ = 4294967295} {m₂ = 65535} h (omega arith)
