use Rattle.bins.specs.Listing.{pushed}
use borrow.Author.Tests.{lt-ltb, le-ltb}
use lib.ListN.{length-set}
use native.Mathlib.Omega.{arith}
use Rattle.bins.proofs.kernel.push.Goals as goal

pub bounds-pairs-count-then-count-pairs : goal.bounds-pairs-count-then-count-pairs
bounds-pairs-count-then-count-pairs c = simp length-set (omega arith)

pub returns-then-count-pairs : goal.returns-then-count-pairs
unfolding pushed
returns-then-count-pairs c = simp (lt-ltb _ _ c.if-count-pairs.true)

pub returns-else-count-pairs : goal.returns-else-count-pairs
unfolding pushed
returns-else-count-pairs c = simp (le-ltb _ _ c.if-count-pairs.false)
