use Prim.Native.Nat.{◌+◌}
use Rattle.fire.specs.Steer.{quickened}
use borrow.Author.Tests.{lt-ltb, le-ltb}
use native.Mathlib.Omega.{arith}
use Rattle.fire.proofs.steer.quicken.Goals as goal

pub returns-then-since-gt5 : goal.returns-then-since-gt5
unfolding quickened
returns-then-since-gt5 c = rw (c.min.ensures, lt-ltb 5 (c.args.g.since + 1) (omega arith))

pub returns : goal.returns
unfolding quickened
returns c = rw (le-ltb 5 (c.args.g.since + 1) (omega arith))
