use Rattle.clumps_label.proofs.Trees.{all_planted}
use lib.ListN.{length}
use native.Mathlib.Omega.{arith}
use Rattle.clumps_label.proofs.forest.plant.Goals as goal

pub returns : goal.returns
returns c = all_planted c.loop-i.p c.loop-i.i (length c.args.p.now) c.loop-i.invariant.0 (omega arith) c.loop-i.invariant.1
