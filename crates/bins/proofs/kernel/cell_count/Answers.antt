use Prim.Native.Nat.{◌*◌}
use Rattle.bins.proofs.Wide.{two_wide, more_wide}
use Rattle.bins.specs.Stencil.{cells}
use native.Mathlib.Omega.{arith}
use Rattle.bins.proofs.kernel.cell_count.Goals as goal

pub overflow_mul-result : goal.overflow_mul-result
overflow_mul-result c = omega (arith, two_wide c.wide.result c.wide-2.result c.wide.ensures.1 c.wide-2.ensures.1)

pub overflow_mul-result-2 : goal.overflow_mul-result-2
overflow_mul-result-2 c = let h = two_wide c.wide.result c.wide-2.result c.wide.ensures.1 c.wide-2.ensures.1 in omega (arith, more_wide (c.wide.result * c.wide-2.result) c.wide-3.result (omega arith) c.wide-3.ensures.1)

pub returns : goal.returns
unfolding cells
returns c = rw (c.wide.ensures.0, c.wide-2.ensures.0, c.wide-3.ensures.0)
