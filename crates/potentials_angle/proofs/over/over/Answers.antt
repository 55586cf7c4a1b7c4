use Prim.Native.Nat.{◌/◌}
use Rattle.potentials.proofs.Folds.{numbers_turn, numbers_over}
use lib.ListN.{length}
use mathlib.Core.Path.{◌∙◌}
use native.Mathlib.Omega.{arith}
use Rattle.potentials_angle.proofs.over.over.Goals as goal

pub loop-r-preserved : goal.loop-r-preserved
loop-r-preserved c = (omega (arith, c.loop-r-test.true), c.one-s.auto.forces ∙ c.loop-r.invariant.1, numbers_turn (length c.args.angles.now.corners.now / 3) c.loop-r-test.true c.loop-r.invariant.2 c.one-s.ensures)

pub returns : goal.returns
returns c = numbers_over (length c.args.angles.now.corners.now / 3) c.loop-r-test.false c.loop-r.invariant.2
