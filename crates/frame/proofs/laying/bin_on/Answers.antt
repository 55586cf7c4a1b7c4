use Rattle.bins.specs.Edge.{bin_on}
use Rattle.frame.proofs.Plans.{bin_most, product_small}
use borrow.Author.Rules.{rules}
use native.Mathlib.Omega.{arith}
use Rattle.frame.proofs.laying.bin_on.Goals as goal

pub overflow_mul-result : goal.overflow_mul-result
overflow_mul-result c = omega (arith, product_small {a = c.args.c} {b = c.args.bins} 4294967295 65535 (omega arith) (omega arith))

pub overflow_cast-result-4 : goal.overflow_cast-result-4
overflow_cast-result-4 c = omega (arith, bin_most c.args.edge c.args.bins c.args.c c.requires)

pub returns : goal.returns
unfolding bin_on
returns c = search rules
