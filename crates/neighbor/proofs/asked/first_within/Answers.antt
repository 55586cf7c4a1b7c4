use Rattle.neighbor.proofs.Asking.{first_all, part_long}
use Rattle.neighbor.proofs.asked.first_within.Goals as goal

pub returns-then-refs-m : goal.returns-then-refs-m
returns-then-refs-m c = first_all _ _ _ c.if-refs-m.true c.all_within.ensures

pub slice_bounds-all_within-end : goal.slice_bounds-all_within-end
slice_bounds-all_within-end c = part_long _ _ c.if-refs-m.false

pub returns : goal.returns
returns c = c.all_within-2.ensures
