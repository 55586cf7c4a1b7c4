use Rattle.neighbor_listing.proofs.Outcomes.{list_table, table_is, plain_few, plain_flat, list_unfit, list_plain, list_crowded, laid_few, laid_gridded, list_grid}
use Rattle.std.proofs.Common.{ap, not}
use Rattle.neighbor_listing.proofs.list.Goals as goal

pub returns-then-not-is_table : goal.returns-then-not-is_table
returns-then-not-is_table c = list_table _ _ _ _ _ _ _ c.is_table.ensures (ap not c.if-not-is_table.true)

pub run_plain-requires : goal.run_plain-requires
run_plain-requires c = (table_is c.args.cell c.args.radius c.args.positions.now c.args.table.now c.args.pairs.now c.args.starts.now c.args.items.now c.is_table.ensures (ap not c.if-not-is_table.false), plain_few c.args.cell c.args.radius c.args.positions.now c.args.table.now c.args.pairs.now c.args.starts.now c.args.items.now c.is_table.ensures (ap not c.if-not-is_table.false) _ c.lay-o.ensures.value c.in-AllPairs.is, plain_flat c.args.cell c.args.radius c.args.positions.now c.args.table.now c.args.pairs.now c.args.starts.now c.args.items.now c.is_table.ensures (ap not c.if-not-is_table.false) _ c.lay-o.ensures.value c.in-AllPairs.is)

pub run_grid-requires : goal.run_grid-requires
run_grid-requires c = record { table_value = (table_is c.args.cell c.args.radius c.args.positions.now c.args.table.now c.args.pairs.now c.args.starts.now c.args.items.now c.is_table.ensures (ap not c.if-not-is_table.false), laid_few c.args.cell c.args.radius c.args.positions.now c.args.table.now c.args.pairs.now c.args.starts.now c.args.items.now c.is_table.ensures (ap not c.if-not-is_table.false) _ c.lay-o.ensures.value c.lay-o.ensures.starts_after c.lay-o.ensures.after c.in-Laid.is); gridded = laid_gridded c.args.cell c.args.radius c.args.positions.now c.args.table.now c.args.pairs.now c.args.starts.now c.args.items.now c.is_table.ensures (ap not c.if-not-is_table.false) _ c.lay-o.ensures.value c.lay-o.ensures.starts_after c.lay-o.ensures.after c.in-Laid.is }

pub returns-in-Unfit : goal.returns-in-Unfit
returns-in-Unfit c = list_unfit _ _ _ _ _ _ _ c.is_table.ensures (ap not c.if-not-is_table.false) _ c.lay-o.ensures.value c.lay-o.ensures.starts_after c.lay-o.ensures.after c.in-Unfit.is

pub returns-in-AllPairs : goal.returns-in-AllPairs
returns-in-AllPairs c = list_plain _ _ _ _ _ _ _ c.is_table.ensures (ap not c.if-not-is_table.false) _ c.lay-o.ensures.value c.lay-o.ensures.starts_after c.lay-o.ensures.after c.in-AllPairs.is c.run_plain.ensures.value c.run_plain.ensures.pairs_after

pub returns-in-TooMany : goal.returns-in-TooMany
returns-in-TooMany c = list_crowded _ _ _ _ _ _ _ c.is_table.ensures (ap not c.if-not-is_table.false) _ c.lay-o.ensures.value c.lay-o.ensures.starts_after c.lay-o.ensures.after c.in-TooMany.is

pub returns-in-Laid : goal.returns-in-Laid
returns-in-Laid c = list_grid _ _ _ _ _ _ _ c.is_table.ensures (ap not c.if-not-is_table.false) _ c.lay-o.ensures.value c.lay-o.ensures.starts_after c.lay-o.ensures.after c.in-Laid.is c.run_grid.ensures.value c.run_grid.ensures.pairs_after
