use Rattle.neighbor_grid.proofs.Plans.{plan_narrow, plan_long, plan_few, plan_crowded, plan_laid, over_all, none_long, two_fit, three_fit}
use borrow.Author.Tests.{ltb-true, ltb-false}
use native.Mathlib.Omega.{arith}
use Rattle.neighbor_grid.proofs.planning.plan_sizes.Goals as goal

pub returns-then-is_narrow : goal.returns-then-is_narrow
returns-then-is_narrow c = plan_narrow c.args.m _ _ _ _ (simp (← c.is_narrow.ensures, ← c.is_narrow-2.ensures, ← c.is_narrow-3.ensures) c.if-is_narrow.true)

pub returns-then-is_long : goal.returns-then-is_long
returns-then-is_long c = plan_long c.args.m _ _ _ _ (simp (← c.is_narrow.ensures, ← c.is_narrow-2.ensures, ← c.is_narrow-3.ensures) c.if-is_narrow.false) (over_all _ _ _ c.requires.0 c.requires.1 c.requires.2 (rw c.is_long.ensures at c.if-is_long.true))

pub overflow_mul-cells : goal.overflow_mul-cells
overflow_mul-cells c = let l = none_long c.args.nx c.args.ny c.args.nz (rw c.is_long.ensures at c.if-is_long.false) in omega (arith, two_fit l.0 l.1)

pub overflow_mul-cells-2 : goal.overflow_mul-cells-2
overflow_mul-cells-2 c = let l = none_long c.args.nx c.args.ny c.args.nz (rw c.is_long.ensures at c.if-is_long.false) in omega (arith, three_fit l.0 l.1 l.2)

pub returns-then-is_few : goal.returns-then-is_few
returns-then-is_few c = plan_few c.args.m _ _ _ _ (simp (← c.is_narrow.ensures, ← c.is_narrow-2.ensures, ← c.is_narrow-3.ensures) c.if-is_narrow.false) (ltb-true _ _ (rw c.is_few.ensures at c.if-is_few.true))

pub returns-then-cells-starts : goal.returns-then-cells-starts
returns-then-cells-starts c = plan_crowded c.args.m _ _ _ _ (simp (← c.is_narrow.ensures, ← c.is_narrow-2.ensures, ← c.is_narrow-3.ensures) c.if-is_narrow.false) (ltb-false _ _ (rw c.is_few.ensures at c.if-is_few.false)) c.if-cells-starts.true

pub grid_of-requires : goal.grid_of-requires
grid_of-requires c = none_long c.args.nx c.args.ny c.args.nz (rw c.is_long.ensures at c.if-is_long.false)

pub returns : goal.returns
returns c = plan_laid c.args.m _ _ _ _ (simp (← c.is_narrow.ensures, ← c.is_narrow-2.ensures, ← c.is_narrow-3.ensures) c.if-is_narrow.false) (ltb-false _ _ (rw c.is_few.ensures at c.if-is_few.false)) c.if-cells-starts.false c.grid_of.ensures
