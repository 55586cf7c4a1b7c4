use Rattle.clumps_label.proofs.Trees.{settled_none, settled_on}
use native.Mathlib.Omega.{arith}
use Rattle.clumps_label.proofs.forest.settle.Goals as goal

pub loop-i-init : goal.loop-i-init
loop-i-init c = settled_none c.args.p.now c.requires

pub loop-i-preserved : goal.loop-i-preserved
loop-i-preserved c = settled_on c.args.p.now c.loop-i.i c.loop-i.count c.loop-i.p c.settle_at-count.result c.settle_at-count.new.p (omega arith) c.loop-i.invariant c.settle_at-count.ensures
