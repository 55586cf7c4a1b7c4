use Rattle.sheet_written.specs.Written.{head_of, mask_of}
use native.Mathlib.Omega.{arith}
use Rattle.sheet_written.proofs.head_of.Goals as goal

pub overflow_add-result : goal.overflow_add-result
overflow_add-result c = omega (arith, c.bit-x.ensures.upper_bound, c.bit-y.ensures.upper_bound)

pub overflow_add-result-2 : goal.overflow_add-result-2
overflow_add-result-2 c = omega (arith, c.bit-x.ensures.upper_bound, c.bit-y.ensures.upper_bound, c.bit-z.ensures.upper_bound)

pub returns : goal.returns
unfolding head_of mask_of
returns c = simp (c.bit-x.ensures.value, c.bit-y.ensures.value, c.bit-z.ensures.value)
