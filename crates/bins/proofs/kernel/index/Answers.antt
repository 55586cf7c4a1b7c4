use Prim.Native.Nat.{◌*◌, ◌+◌}
use Rattle.bins.proofs.Wide.{two_wide, more_wide}
use Rattle.bins.specs.Stencil.{flatten}
use native.Mathlib.Omega.{arith}
use Rattle.bins.proofs.kernel.index.Goals as goal

pub overflow_mul-result : goal.overflow_mul-result
overflow_mul-result c = omega (arith, two_wide c.wide.result c.wide-2.result c.wide.ensures.1 c.wide-2.ensures.1)

pub overflow_add-result : goal.overflow_add-result
overflow_add-result c = omega (arith, two_wide c.wide.result c.wide-2.result c.wide.ensures.1 c.wide-2.ensures.1)

pub overflow_mul-result-2 : goal.overflow_mul-result-2
overflow_mul-result-2 c = let h = two_wide c.wide.result c.wide-2.result c.wide.ensures.1 c.wide-2.ensures.1 in omega (arith, more_wide (c.wide.result * c.wide-2.result + c.wide-3.result) c.wide-4.result (omega arith) c.wide-4.ensures.1)

pub overflow_add-result-2 : goal.overflow_add-result-2
overflow_add-result-2 c = let h = two_wide c.wide.result c.wide-2.result c.wide.ensures.1 c.wide-2.ensures.1 in omega (arith, more_wide (c.wide.result * c.wide-2.result + c.wide-3.result) c.wide-4.result (omega arith) c.wide-4.ensures.1)

pub returns : goal.returns
unfolding flatten
returns c = rw (c.wide.ensures.0, c.wide-2.ensures.0, c.wide-3.ensures.0, c.wide-4.ensures.0, c.wide-5.ensures.0)
