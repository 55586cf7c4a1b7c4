use Rattle.frame.proofs.Builds.{plan_plain, plan_crowd, plan_grid, plan_gridded, plan_room, after_plain, after_crowded, after_grid}
use lib.ListN.{length}
use Rattle.frame.proofs.building.run.Goals as goal

pub run_plain-requires : goal.run_plain-requires
run_plain-requires c = record { framed = c.requires.framed; xs_len_bound = (c.requires.in_bounds.1, plan_plain c.args.f (length c.args.starts.now) c.plan_of-p.ensures c.in-AllPairs.is) }

pub run_grid-requires : goal.run_grid-requires
run_grid-requires c = record { framed = c.requires.framed; gridded = plan_gridded c.args.f (length c.args.starts.now) c.plan_of-p.ensures c.in-Laid.is; xs_len_bound = (c.requires.in_bounds.1, plan_room c.args.f (length c.args.starts.now) c.plan_of-p.ensures c.in-Laid.is, c.requires.in_bounds.2) }

pub returns-in-AllPairs : goal.returns-in-AllPairs
returns-in-AllPairs c = after_plain _ c.requires.in_bounds.0 (plan_plain c.args.f (length c.args.starts.now) c.plan_of-p.ensures c.in-AllPairs.is) c.run_plain.ensures.result_value c.run_plain.ensures.pairs_after

pub returns-in-TooMany : goal.returns-in-TooMany
returns-in-TooMany c = let q = plan_crowd c.args.f (length c.args.starts.now) c.plan_of-p.ensures c.in-TooMany.is in after_crowded _ c.requires.in_bounds.0 q.0 q.1

pub returns-in-Laid : goal.returns-in-Laid
returns-in-Laid c = let q = plan_grid c.args.f (length c.args.starts.now) c.plan_of-p.ensures c.in-Laid.is in after_grid _ c.requires.in_bounds.0 q.0 q.1 c.run_grid.ensures.result_value c.run_grid.ensures.pairs_after c.run_grid.ensures.starts_after c.run_grid.ensures.after
