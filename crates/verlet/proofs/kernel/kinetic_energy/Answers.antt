use Prim.Native.Nat.{◌/◌, min}
use Rattle.lists.proofs.Loops.{fold_up_to_none, fold_up_to_turn}
use Rattle.verlet.specs.Verlet.{kinetic_energy_of}
use borrow.Author.Rules.{rules}
use lib.ListN.{length}
use mathlib.Core.Path.{◌≡◌, sym}
use native.Mathlib.Omega.{arith}
use Rattle.verlet.proofs.kernel.kinetic_energy.Goals as goal

pub loop-i-init : goal.loop-i-init
loop-i-init c = (search rules, c.shorter-n.ensures, sym (fold_up_to_none _ _))

pub loop-i-preserved : goal.loop-i-preserved
loop-i-preserved c = (search rules, c.loop-i.invariant.1, fold_up_to_turn _ c.loop-i.i _ c.loop-i.invariant.2 (rw (c.kinetic-ke.ensures, c.velocity-v.ensures)))

pub returns : goal.returns
unfolding kinetic_energy_of
returns c = let e : c.loop-i.i ≡ min (length c.args.vs.now / 3) (length c.args.ms.now) = omega arith in rw (← e) c.loop-i.invariant.2
