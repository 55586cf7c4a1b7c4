use Rattle.std.proofs.Common.{ℕ, ◌+◌, ◌-◌, ◌*◌, ◌/◌, ◌^◌, ap, ◌∙◌, mod-lt, zero-lt-suc, arith}
use Rattle.float.proofs.Normal.{normal, all_sum, half_le, shift_is, shift_within, rescaled}
use lib.Count.{count_leading_zeros}
use Rattle.float.proofs.evened.Goals as goal

pub overflow_sub-z : goal.overflow_sub-z
overflow_sub-z c = (normal _ c.requires.0 c.requires.1).0

pub overflow_cast-z : goal.overflow_cast-z
overflow_cast-z c = omega (arith, (normal _ c.requires.0 c.requires.1).1.shift)

pub overflow_sub-p : goal.overflow_sub-p
overflow_sub-p c = omega (arith, (normal _ c.requires.0 c.requires.1).1.shift)

pub overflow_add-result : goal.overflow_add-result
overflow_add-result c = omega (arith, (normal _ c.requires.0 c.requires.1).1.shift)

pub overflow_shl-result : goal.overflow_shl-result
overflow_shl-result c = omega (arith, (normal _ c.requires.0 c.requires.1).1.shift)

pub returns : goal.returns
returns c = record { low = (shift_within _ _ _ (normal _ c.requires.0 c.requires.1).1 (mod-lt _ (zero-lt-suc 1))).0; high = (shift_within _ _ _ (normal _ c.requires.0 c.requires.1).1 (mod-lt _ (zero-lt-suc 1))).1; few = half_le _ _ c.requires.2; whole = ap (λ (n : ℕ). n * 4 ^ ((c.args.q + 54 - (count_leading_zeros 64 c.args.m - 11)) / 2 + 36)) (shift_is _ _ _ (normal _ c.requires.0 c.requires.1).1 (mod-lt _ (zero-lt-suc 1))) ∙ rescaled _ _ _ _ (all_sum _ _ (normal _ c.requires.0 c.requires.1).1.shift) }
