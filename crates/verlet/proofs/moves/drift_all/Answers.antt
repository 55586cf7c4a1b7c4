use Rattle.lists.proofs.Loops.{part_none, part_turn, part_done}
use Rattle.verlet.specs.Verlet.{drift_at, drifted_of}
use borrow.Author.Rules.{rules}
use lib.Ieee.{nan}
use lib.ListN.{length-set}
use mathlib.Core.Path.{refl}
use native.Mathlib.Omega.{arith}
use Rattle.verlet.proofs.moves.drift_all.Goals as goal

pub loop-k-init : goal.loop-k-init
loop-k-init c = (search rules, refl, part_none _ nan _)

pub loop-k-preserved : goal.loop-k-preserved
loop-k-preserved c = (search rules, simp length-set c.loop-k.invariant.1, part_turn (drift_at c.args.dt c.args.vs.now) nan c.loop-k.k c.args.xs.now (search rules) c.loop-k.invariant.2 refl)

pub returns : goal.returns
unfolding drifted_of
returns c = part_done _ nan c.loop-k.k _ (omega arith) c.loop-k.invariant.2
