-- `float::digit` meets its contract by `digit-step` of `proofs/WholeRoots.antt`. Assumes nothing.
use Rattle.float.proofs.WholeRoots.{twice_lt, digit_step}
use Rattle.std.proofs.Common.{arith}
use Rattle.float.proofs.digit.Goals as goal

pub overflow_mul-left : goal.overflow_mul-left
overflow_mul-left c = omega (arith, twice_lt _ _ _ _ c.requires.0, c.requires.0.left, c.requires.1)

pub overflow_add-trial : goal.overflow_add-trial
overflow_add-trial c = omega (arith, twice_lt _ _ _ _ c.requires.0, c.requires.1)

pub overflow_add-trial-2 : goal.overflow_add-trial-2
overflow_add-trial-2 c = omega (arith, twice_lt _ _ _ _ c.requires.0, c.requires.1)

pub overflow_sub-result : goal.overflow_sub-result
overflow_sub-result c = omega (arith, c.choose-2.ensures, (digit_step _ _ _ _ c.requires.0).0)

pub returns : goal.returns
returns c = rw (c.choose.ensures, c.choose-2.ensures) (digit_step _ _ _ _ c.requires.0).1
