use Rattle.lists.proofs.Loops.{part_none, part_turn, part_done}
use Rattle.virial.proofs.Forces.{zero_at, zeros_all}
use lib.Ieee.{nan}
use mathlib.Core.Path.{refl, ◌∙◌}
use native.Mathlib.Omega.{arith}
use Rattle.virial.proofs.kernel.clear.Goals as goal

pub loop-force-init : goal.loop-force-init
loop-force-init c = part_none _ nan _

pub loop-force-preserved : goal.loop-force-preserved
loop-force-preserved c = part_turn zero_at nan c.loop-force.force-index c.args.forces.now (omega arith) c.loop-force.invariant refl

pub returns : goal.returns
returns c = part_done zero_at nan c.loop-force.force-index _ (omega arith) c.loop-force.invariant ∙ zeros_all 0 _
