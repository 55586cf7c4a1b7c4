use Rattle.sheet.proofs.Copying.{one_more}
use lib.ListN.{length, take}
use lib.Seq.{sets, length-sets}
use mathlib.Core.Path.{◌≡◌, refl, ap, ◌∙◌}
use native.Mathlib.Omega.{arith}
use Rattle.sheet.proofs.copy_in.Goals as goal

pub loop-i-init : goal.loop-i-init
loop-i-init c = (omega arith, refl)

pub bounds-to-i : goal.bounds-to-i
bounds-to-i c = omega (arith, ap length c.loop-i.invariant.1 ∙ length-sets c.args.to.now 0 (take c.loop-i.i c.args.from.now))

pub loop-i-preserved : goal.loop-i-preserved
loop-i-preserved c = (omega arith, one_more c.args.from.now c.args.to.now c.loop-i.to c.loop-i.i (omega arith) c.loop-i.invariant.1)

pub shape_of-to : goal.shape_of-to
shape_of-to c = ap length c.loop-i.invariant.1 ∙ length-sets c.args.to.now 0 (take c.loop-i.i c.args.from.now)

pub returns : goal.returns
returns c = let e : c.loop-i.i ≡ c.args.n = omega arith in c.loop-i.invariant.1 ∙ ap (λ j. sets c.args.to.now 0 (take j c.args.from.now)) e
