use Rattle.fire.specs.Steer.{largest_force}
use Rattle.lists.proofs.Loops.{fold_up_to_none, fold_up_to_turn}
use borrow.Author.Rules.{rules}
use lib.ListN.{length}
use mathlib.Core.Path.{◌≡◌, sym}
use native.Mathlib.Omega.{arith}
use Rattle.fire.proofs.steer.largest.Goals as goal

pub loop-f-init : goal.loop-f-init
loop-f-init c = (search rules, sym (fold_up_to_none _ _))

pub loop-f-preserved : goal.loop-f-preserved
loop-f-preserved c = (search rules, fold_up_to_turn _ c.loop-f.f-index _ c.loop-f.invariant.1 (rw (c.max-m.ensures, c.abs.ensures)))

pub returns : goal.returns
unfolding largest_force
returns c = let e : c.loop-f.f-index ≡ length c.args.fs.now = omega arith in rw (← e) c.loop-f.invariant.1
