use Prim.Native.Nat.{ℕ, ◌/◌}
use Rattle.frame.proofs.Builds.{sweep_ready, sweep_ended, grid_count, grid_mem, grid_room, grid_left, shown_is}
use Rattle.frame.proofs.Tables.{swept}
use Rattle.frame.specs.Steps.{scene_by}
use mathlib.Core.Bool.{false}
use mathlib.Core.Path.{ap}
use Rattle.frame.proofs.building.run_grid.Goals as goal

pub sweep_all-t-requires : goal.sweep_all-t-requires
sweep_all-t-requires c = record { swept = swept c.args.f c.args.xs.now c.requires.framed.0 c.requires.gridded.is c.args.starts.now c.args.items.now c.lay-excluded.ensures.starts_after c.lay-excluded.ensures.after; ready = sweep_ready c.requires.gridded c.requires.framed.0 c.requires.xs_len_bound.0 (scene_by c.args.f c.args.xs.now c.args.table.now) }

pub finish-requires : goal.finish-requires
finish-requires c = let z = sweep_ended c.requires.gridded c.requires.framed.0 c.requires.xs_len_bound.0 c.args.table.now c.args.pairs.now _ _ c.sweep_all-t.ensures in (grid_room c.args.f c.args.xs.now c.args.table.now c.requires.framed.1 c.args.pairs.now c.requires.gridded.wide c.requires.framed.0 z c.lay-excluded.ensures.value, z.few)

pub returns : goal.returns
returns c = let z = sweep_ended c.requires.gridded c.requires.framed.0 c.requires.xs_len_bound.0 c.args.table.now c.args.pairs.now _ _ c.sweep_all-t.ensures in record { result_value = shown_is false c.finish.ensures (grid_count c.args.f c.args.xs.now c.args.table.now c.requires.framed.1 c.args.pairs.now c.requires.gridded.wide c.requires.framed.0 z) (grid_left c.args.f c.args.xs.now c.args.table.now c.requires.framed.1 c.args.pairs.now c.requires.gridded.wide c.requires.framed.0 z c.lay-excluded.ensures.value) (ap (λ (l : ℕ). l / 2) z.same); pairs_after = grid_mem c.args.f c.args.xs.now c.args.table.now c.requires.framed.1 c.args.pairs.now c.requires.gridded.wide c.requires.framed.0 z; starts_after = c.lay-excluded.ensures.starts_after; after = c.lay-excluded.ensures.after }
