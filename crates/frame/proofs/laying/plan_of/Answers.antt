use Prim.Native.Nat.{◌*◌}
use Rattle.frame.proofs.Plans.{plan_zero, plan_narrow, plan_few, plan_crowded, plan_laid, cells_are, grid_is, factor_first, factor_second, factor_third, product_small}
use Rattle.lists.proofs.Cases.{or_neither}
use borrow.Author.Tests.{ltb-true, ltb-false}
use native.Mathlib.Omega.{arith}
use Rattle.frame.proofs.laying.plan_of.Goals as goal

pub returns-then-radius-eq0 : goal.returns-then-radius-eq0
returns-then-radius-eq0 c = plan_zero _ _ c.if-radius-eq0.true

pub returns-then-is_narrow : goal.returns-then-is_narrow
returns-then-is_narrow c = plan_narrow _ _ c.if-radius-eq0.false (simp (← c.is_narrow.ensures, ← c.is_narrow-2.ensures, ← c.is_narrow-3.ensures) c.if-is_narrow.true)

pub overflow_mul-cells : goal.overflow_mul-cells
overflow_mul-cells c = omega (arith, product_small {a = c.bins_on-nx.result} {b = c.bins_on-ny.result} 1048577 1048577 (omega (arith, c.bins_on-nx.ensures.2, c.requires.x)) (omega (arith, c.bins_on-ny.ensures.2, c.requires.y)))

pub overflow_mul-cells-2 : goal.overflow_mul-cells-2
overflow_mul-cells-2 c = let p = product_small {a = c.bins_on-nx.result} {b = c.bins_on-ny.result} 1048577 1048577 (omega (arith, c.bins_on-nx.ensures.2, c.requires.x)) (omega (arith, c.bins_on-ny.ensures.2, c.requires.y)) in omega (arith, product_small {a = c.bins_on-nx.result * c.bins_on-ny.result} {b = c.bins_on-nz.result} 1099513724929 1048577 p (omega (arith, c.bins_on-nz.ensures.2, c.requires.z)))

pub returns-then-is_few : goal.returns-then-is_few
returns-then-is_few c = plan_few c.args.f c.args.starts c.if-radius-eq0.false (simp (← c.is_narrow.ensures, ← c.is_narrow-2.ensures, ← c.is_narrow-3.ensures) c.if-is_narrow.false) (cells_are c.args.f c.args.starts c.bins_on-nx.ensures.0 c.bins_on-ny.ensures.0 c.bins_on-nz.ensures.0) (ltb-true _ _ (rw c.is_few.ensures at c.if-is_few.true))

pub returns-then-cells-starts : goal.returns-then-cells-starts
returns-then-cells-starts c = plan_crowded c.args.f c.args.starts c.if-radius-eq0.false (simp (← c.is_narrow.ensures, ← c.is_narrow-2.ensures, ← c.is_narrow-3.ensures) c.if-is_narrow.false) (cells_are c.args.f c.args.starts c.bins_on-nx.ensures.0 c.bins_on-ny.ensures.0 c.bins_on-nz.ensures.0) (ltb-false _ _ (rw c.is_few.ensures at c.if-is_few.false)) c.if-cells-starts.true

pub axis-requires : goal.axis-requires
axis-requires c = factor_first c.bins_on-nx.result c.bins_on-ny.result c.bins_on-nz.result c.bins_on-ny.ensures.1 c.bins_on-nz.ensures.1 (ltb-false _ _ (or_neither _ _ c.if-cells-starts.false).0)

pub axis-requires-2 : goal.axis-requires-2
axis-requires-2 c = factor_second c.bins_on-nx.result c.bins_on-ny.result c.bins_on-nz.result c.bins_on-nx.ensures.1 c.bins_on-nz.ensures.1 (ltb-false _ _ (or_neither _ _ c.if-cells-starts.false).0)

pub axis-requires-3 : goal.axis-requires-3
axis-requires-3 c = factor_third c.bins_on-nx.result c.bins_on-ny.result c.bins_on-nz.result c.bins_on-nx.ensures.1 c.bins_on-ny.ensures.1 (ltb-false _ _ (or_neither _ _ c.if-cells-starts.false).0)

pub returns : goal.returns
returns c = plan_laid c.args.f c.args.starts c.if-radius-eq0.false (simp (← c.is_narrow.ensures, ← c.is_narrow-2.ensures, ← c.is_narrow-3.ensures) c.if-is_narrow.false) (cells_are c.args.f c.args.starts c.bins_on-nx.ensures.0 c.bins_on-ny.ensures.0 c.bins_on-nz.ensures.0) (ltb-false _ _ (rw c.is_few.ensures at c.if-is_few.false)) c.if-cells-starts.false (grid_is c.args.f c.args.starts c.bins_on-nx.ensures.0 c.bins_on-ny.ensures.0 c.bins_on-nz.ensures.0 c.axis.ensures c.axis-2.ensures c.axis-3.ensures)
