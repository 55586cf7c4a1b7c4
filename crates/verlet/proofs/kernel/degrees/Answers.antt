use Prim.Native.Nat.{◌≤◌, ◌^◌}
use Rattle.verlet.specs.Verlet.{degrees_of}
use borrow.Author.Tests.{le-leb}
use lib.Ieee.{in_float}
use mathlib.Core.Path.{refl}
use native.Mathlib.Omega.{arith}
use Rattle.verlet.proofs.kernel.degrees.Goals as goal

pub int_to_float-result : goal.int_to_float-result
unfolding in_float
int_to_float-result c = let h : c.args.n ≤ 2 ^ 53 = omega (arith, c.requires) in rw (le-leb c.args.n (2 ^ 53) h) tt

pub returns : goal.returns
unfolding degrees_of
returns c = refl
