use Rattle.clumps_answer.specs.Clumps.{solve_clumps_of}
use borrow.Author.Tests.{le-ltb}
use lib.ListN.{length}
use native.Mathlib.Omega.{arith}
use Rattle.clumps_console.proofs.run.Goals as goal

pub returns : goal.returns
unfolding solve_clumps_of
returns c = simp (le-ltb (length c.args.out.now) 11264 (omega (arith, c.told-out))) at c.print.ensures
