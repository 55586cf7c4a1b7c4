use Prim.Native.Nat.{ℕ, ◌/◌}
use Rattle.lists.proofs.Loops.{room_front}
use Rattle.neighbor_listing.proofs.Counts.{grid_ran, grid_ready, grid_swept, shown_is}
use Rattle.neighbor_listing.proofs.Partners.{tops_part, tops_within, tops_long, cleared_front}
use lib.ListN.{length}
use mathlib.Core.Bool.{false}
use mathlib.Core.Path.{ap, sym}
use native.Mathlib.Omega.{arith}
use Rattle.neighbor_listing.proofs.running.run_grid.Goals as goal

pub slice_bounds-raise_all-end : goal.slice_bounds-raise_all-end
slice_bounds-raise_all-end c = sym (room_front _ _ c.blank_tops-tops.ensures.long c.requires.table_value.1)

pub slice_bounds-tops-end-2 : goal.slice_bounds-tops-end-2
slice_bounds-tops-end-2 c = tops_within _ _ c.blank_tops-tops.ensures.long c.requires.table_value.1 c.raise_all.ensures c.raise_all.auto.tops

pub slice_bounds-sweep_all-end : goal.slice_bounds-sweep_all-end
slice_bounds-sweep_all-end c = tops_long _ _ c.blank_tops-tops.ensures.long c.requires.table_value.1 c.raise_all.ensures c.raise_all.auto.tops

pub sweep_all-t-requires : goal.sweep_all-t-requires
sweep_all-t-requires c = record { swept = grid_swept c.requires.gridded; ready = rw c.none.ensures (grid_ready c.requires.gridded c.requires.table_value.1) }

pub finish-requires : goal.finish-requires
finish-requires c = let z = grid_ran c.requires.gridded c.requires.table_value.1 c.requires.table_value.0 c.sight_of.ensures (tops_part _ _ c.blank_tops-tops.ensures.long c.requires.table_value.1 c.raise_all.ensures c.raise_all.auto.tops) c.args.pairs.now (rw c.none.ensures at c.sweep_all-t.ensures) in (z.order, z.fits, z.few)

pub returns : goal.returns
returns c = let z = grid_ran c.requires.gridded c.requires.table_value.1 c.requires.table_value.0 c.sight_of.ensures (tops_part _ _ c.blank_tops-tops.ensures.long c.requires.table_value.1 c.raise_all.ensures c.raise_all.auto.tops) c.args.pairs.now (rw c.none.ensures at c.sweep_all-t.ensures) in record { value = shown_is false c.finish.ensures z.count z.left (ap (λ (l : ℕ). l / 2) z.same); pairs_after = z.mem }

pub raise_all-requires : goal.raise_all-requires
raise_all-requires c = cleared_front (length c.args.xs.now / 3) (omega (arith, c.blank_tops-tops.ensures.long, c.requires.table_value.1)) c.blank_tops-tops.ensures.clear
