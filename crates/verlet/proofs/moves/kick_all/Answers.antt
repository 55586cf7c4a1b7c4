use Rattle.float.specs.Literals.{half}
use Rattle.float.specs.Arith.{◌⊗◌}
use Rattle.lists.proofs.Loops.{part_none, part_turn, part_done}
use Rattle.verlet.specs.Verlet.{kick_at, kicked_of}
use borrow.Author.Rules.{rules}
use lib.Ieee.{nan}
use lib.ListN.{length-set}
use mathlib.Core.Path.{refl}
use native.Mathlib.Omega.{arith}
use Rattle.verlet.proofs.moves.kick_all.Goals as goal

pub loop-k-init : goal.loop-k-init
loop-k-init c = (search rules, refl, part_none _ nan _)

pub loop-k-preserved : goal.loop-k-preserved
loop-k-preserved c = (search rules, simp length-set c.loop-k.invariant.1, part_turn (kick_at c.args.units.force_to_accel (half ⊗ c.args.dt) c.args.fs.now c.args.ms.now) nan c.loop-k.k c.args.vs.now (search rules) c.loop-k.invariant.2 c.kick_one.ensures)

pub returns : goal.returns
unfolding kicked_of
returns c = part_done _ nan c.loop-k.k _ (omega arith) c.loop-k.invariant.2
