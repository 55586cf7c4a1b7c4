use Rattle.evaluate.proofs.Folding.{onto_zero, onto_zeros}
use Rattle.lists.proofs.Loops.{part_none, part_turn, part_done}
use borrow.Author.Rules.{rules}
use lib.Ieee.{nan}
use lib.ListN.{length-set}
use mathlib.Core.Path.{refl, ◌∙◌}
use native.Mathlib.Omega.{arith}
use Rattle.evaluate.proofs.merging.onto_zero.Goals as goal

pub loop-force-init : goal.loop-force-init
loop-force-init c = part_none _ nan _

pub loop-force-preserved : goal.loop-force-preserved
loop-force-preserved c = part_turn onto_zero nan c.loop-force.force-index c.args.forces.now (omega arith) c.loop-force.invariant refl

pub returns : goal.returns
returns c = part_done onto_zero nan c.loop-force.force-index _ (omega arith) c.loop-force.invariant ∙ onto_zeros 0 _
