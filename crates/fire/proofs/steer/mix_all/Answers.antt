use Rattle.fire.specs.Steer.{blend_at, blended_of}
use Rattle.lists.proofs.Loops.{part_none, part_turn, part_done}
use borrow.Author.Rules.{rules}
use lib.Ieee.{nan}
use lib.ListN.{length-set}
use mathlib.Core.Path.{refl}
use native.Mathlib.Omega.{arith}
use Rattle.fire.proofs.steer.mix_all.Goals as goal

pub loop-k-init : goal.loop-k-init
loop-k-init c = (search rules, refl, part_none _ nan _)

pub loop-k-preserved : goal.loop-k-preserved
loop-k-preserved c = (search rules, simp length-set c.loop-k.invariant.1, part_turn (blend_at c.args.keep c.args.one c.args.push c.args.fs.now) nan c.loop-k.k c.args.vs.now (search rules) c.loop-k.invariant.2 c.mix_one.ensures)

pub returns : goal.returns
unfolding blended_of
returns c = part_done _ nan c.loop-k.k _ (omega arith) c.loop-k.invariant.2
