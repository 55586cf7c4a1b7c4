use Rattle.std.proofs.Common.{refl, arith, length-set}
use Rattle.float.specs.Arith.{at}
use Rattle.lists.proofs.Loops.{part_turn, part_none}
use lib.Ieee.{nan}
use Rattle.neighbor.proofs.rebuild.refer.Goals as goal

pub loop-k-init : goal.loop-k-init
loop-k-init c = (omega arith, refl, part_none (λ j _. at c.args.xs.now j) nan c.args.refs.now)

pub loop-k-preserved : goal.loop-k-preserved
loop-k-preserved c = (omega arith, simp length-set c.loop-k.invariant.1, part_turn (λ j _. at c.args.xs.now j) nan c.loop-k.k c.args.refs.now (omega (arith, c.requires)) c.loop-k.invariant.2 refl)
