use Prim.Native.Nat.{◌/◌}
use Rattle.potentials_angle.proofs.Kernels.{every_begins, every_holds, every_breaks, every_ends}
use Rattle.potentials_angle.specs.Ranged.{angle_in_range, angle_row, per_angle_in_range}
use borrow.Author.Tests.{not-true, not-false}
use lib.ListN.{length}
use mathlib.Core.Path.{sym, ◌∙◌, ap}
use native.Mathlib.Omega.{arith}
use Rattle.std.proofs.Common.{not}
use Rattle.potentials_angle.proofs.ranged.per_angle_in_range.Goals as goal

pub loop-r-init : goal.loop-r-init
loop-r-init c = unfold per_angle_in_range in (omega arith, every_begins (λ k. angle_in_range (angle_row c.args.per_angle.now k)) (length c.args.per_angle.now / 2) 0)

pub returns-then-not-angle_in_range : goal.returns-then-not-angle_in_range
returns-then-not-angle_in_range c = sym (c.loop-r.invariant.1 ∙ every_breaks (λ k. angle_in_range (angle_row c.args.per_angle.now k)) (length c.args.per_angle.now / 2) c.loop-r.r (omega arith) (ap angle_in_range (sym c.angle_row-a.ensures) ∙ sym c.angle_in_range.ensures ∙ not-true _ (ap not c.if-not-angle_in_range.true)))

pub loop-r-preserved : goal.loop-r-preserved
loop-r-preserved c = (omega arith, c.loop-r.invariant.1 ∙ every_holds (λ k. angle_in_range (angle_row c.args.per_angle.now k)) (length c.args.per_angle.now / 2) c.loop-r.r (omega arith) (ap angle_in_range (sym c.angle_row-a.ensures) ∙ sym c.angle_in_range.ensures ∙ not-false _ (ap not c.if-not-angle_in_range.false)))

pub returns : goal.returns
returns c = sym (c.loop-r.invariant.1 ∙ every_ends (λ k. angle_in_range (angle_row c.args.per_angle.now k)) (length c.args.per_angle.now / 2) c.loop-r.r (omega arith))
