use Rattle.virial.specs.Virial.{added_at}
use borrow.Author.Tests.{lt-ltb, le-ltb}
use lib.ListN.{length-set}
use native.Mathlib.Omega.{arith}
use Rattle.virial.proofs.kernel.add_at.Goals as goal

pub bounds-forces-k-then-i-forces-4 : goal.bounds-forces-k-then-i-forces-4
bounds-forces-k-then-i-forces-4 c = simp length-set (omega arith)

pub bounds-forces-k-then-i-forces-5 : goal.bounds-forces-k-then-i-forces-5
bounds-forces-k-then-i-forces-5 c = simp length-set (omega arith)

pub returns-then-i-forces : goal.returns-then-i-forces
unfolding added_at
returns-then-i-forces c = rw (lt-ltb _ _ c.if-i-forces.true)

pub returns-else-i-forces : goal.returns-else-i-forces
unfolding added_at
returns-else-i-forces c = rw (le-ltb _ _ c.if-i-forces.false)
