-- `float::of_bits` meets its contract: which patterns are a not-a-number's is in proofs/Patterns.antt. Assumes nothing.
use Rattle.std.proofs.Common.{◌≡◌, refl, ◌∙◌, rules}
use lib.Ieee.{div, of_bits, binary64, nan}
use Rattle.float.proofs.Patterns.{other_pattern, nan_pattern}
use Rattle.float.proofs.of_bits.Goals as goal

zero_over_zero : div binary64 (of_bits binary64 0) (of_bits binary64 0) ≡ nan
unfolding div of_bits
zero_over_zero = refl

pub float_from_bits-result : goal.float_from_bits-result
float_from_bits-result c = other_pattern _ (search rules)

pub returns-then-w-gt9218868437227405312 : goal.returns-then-w-gt9218868437227405312
returns-then-w-gt9218868437227405312 c = zero_over_zero ∙ nan_pattern _ (search rules)
