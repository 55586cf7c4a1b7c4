use Prim.Native.Nat.{ℕ, ◌*◌, ◌≤◌}
use native.Mathlib.Nat.{mul-le-mul}
use native.Mathlib.Omega.{arith}
use Rattle.skin.proofs.most_of.Goals as goal

small_square : (d : ℕ) → d ≤ 4294967295 → d * d ≤ 18446744065119617025
small_square d h = omega (arith, mul-le-mul h h)

pub overflow_mul-result : goal.overflow_mul-result
overflow_mul-result c = omega (arith, small_square c.args.skin (omega arith))
