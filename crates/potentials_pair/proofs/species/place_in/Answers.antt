use Prim.Native.Nat.{◌-◌}
use Rattle.lists.proofs.Halving.{turn_up, turn_down, halved_stop}
use Rattle.potentials_pair.specs.Species.{place_in}
use borrow.Author.Tests.{lt-ltb, le-ltb}
use lib.Dec.{ltb}
use lib.ListN.{length, get_or}
use mathlib.Core.Path.{sym, ◌∙◌}
use native.Mathlib.Nat.{sub-zero}
use native.Mathlib.Omega.{arith}
use Rattle.potentials_pair.proofs.species.place_in.Goals as goal

pub loop-from-init : goal.loop-from-init
loop-from-init c = unfold place_in in (omega arith, omega arith, rw (sub-zero (length c.args.ids.now)))

pub loop-from-preserved-then-ids-mid : goal.loop-from-preserved-then-ids-mid
loop-from-preserved-then-ids-mid c = (omega arith, omega arith, turn_up (λ k. ltb (get_or c.args.ids.now k 0) c.args.z) c.loop-from.from c.loop-from.to c.loop-from-test.true (lt-ltb _ _ c.if-ids-mid.true) ∙ c.loop-from.invariant.2)

pub loop-from-preserved : goal.loop-from-preserved
loop-from-preserved c = (omega arith, omega arith, turn_down (λ k. ltb (get_or c.args.ids.now k 0) c.args.z) c.loop-from.from c.loop-from.to c.loop-from-test.true (le-ltb _ _ c.if-ids-mid.false) ∙ c.loop-from.invariant.2)

pub returns : goal.returns
returns c = sym (halved_stop (λ k. ltb (get_or c.args.ids.now k 0) c.args.z) (c.loop-from.to - c.loop-from.from) c.loop-from.from c.loop-from.to c.loop-from-test.false) ∙ c.loop-from.invariant.2
