use Rattle.neighbor_grid.proofs.Plans.{plan_by}
use Rattle.neighbor_grid.specs.Steps.{plan_of}
use Rattle.neighbor_grid.proofs.planning.plan_of.Goals as goal

pub returns-then-r-m : goal.returns-then-r-m
unfolding plan_of
returns-then-r-m c = rw c.if-r-m.true

pub returns : goal.returns
returns c = plan_by _ _ _ _ _ _ c.if-r-m.false c.size_in-nx.ensures.0 c.size_in-ny.ensures.0 c.size_in-nz.ensures.0 c.plan_sizes.ensures
