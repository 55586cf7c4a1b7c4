use Rattle.lists.proofs.Loops.{part_none, part_turn, part_done}
use Rattle.verlet.specs.Verlet.{scale_at, scaled_by}
use borrow.Author.Rules.{rules}
use lib.Ieee.{nan}
use lib.ListN.{length-set}
use mathlib.Core.Path.{refl}
use native.Mathlib.Omega.{arith}
use Rattle.verlet.proofs.kernel.scale_all.Goals as goal

pub loop-v-init : goal.loop-v-init
loop-v-init c = part_none _ nan _

pub loop-v-preserved : goal.loop-v-preserved
loop-v-preserved c = part_turn (scale_at c.args.s) nan c.loop-v.v-index c.args.vs.now (omega arith) c.loop-v.invariant refl

pub returns : goal.returns
unfolding scaled_by
returns c = part_done _ nan c.loop-v.v-index _ (omega arith) c.loop-v.invariant
