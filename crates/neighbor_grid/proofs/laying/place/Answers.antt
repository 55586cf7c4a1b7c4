use Prim.Native.Nat.{◌/◌}
use Rattle.neighbor_grid.proofs.Sizes.{filled}
use Rattle.lists.proofs.Loops.{room_front}
use Rattle.bins.proofs.Tables.{done_within, done_part, laid_starts, laid_items}
use Rattle.candidates.proofs.Counted.{done_rows}
use lib.ListN.{length}
use mathlib.Core.Path.{refl, ◌∙◌, sym}
use native.Mathlib.Omega.{arith}
use Rattle.neighbor_grid.proofs.laying.place.Goals as goal

pub slice_bounds-bin_atoms-end : goal.slice_bounds-bin_atoms-end
slice_bounds-bin_atoms-end c = sym (room_front c.blank-places.result (length c.args.xs.now / 3) c.blank-places.ensures c.requires.xs_len_bound.0)

pub bin_atoms-requires : goal.bin_atoms-requires
bin_atoms-requires c = (c.requires.small, omega (arith, room_front c.blank-places.result (length c.args.xs.now / 3) c.blank-places.ensures c.requires.xs_len_bound.0))

pub slice_bounds-places-end-2 : goal.slice_bounds-places-end-2
slice_bounds-places-end-2 c = let h = filled c.args.ruler c.args.xs.now c.blank-places.result c.bin_atoms.new.places c.requires.small c.blank-places.ensures c.requires.xs_len_bound.0 c.bin_atoms.ensures in done_within h

pub slice_bounds-sort-end : goal.slice_bounds-sort-end
slice_bounds-sort-end c = let h = filled c.args.ruler c.args.xs.now c.blank-places.result c.bin_atoms.new.places c.requires.small c.blank-places.ensures c.requires.xs_len_bound.0 c.bin_atoms.ensures in done_part h

pub slice_bounds-places-end-3 : goal.slice_bounds-places-end-3
slice_bounds-places-end-3 c = let h = filled c.args.ruler c.args.xs.now c.blank-places.result c.bin_atoms.new.places c.requires.small c.blank-places.ensures c.requires.xs_len_bound.0 c.bin_atoms.ensures in done_within h

pub slice_bounds-rows_touching-end : goal.slice_bounds-rows_touching-end
slice_bounds-rows_touching-end c = let h = filled c.args.ruler c.args.xs.now c.blank-places.result c.bin_atoms.new.places c.requires.small c.blank-places.ensures c.requires.xs_len_bound.0 c.bin_atoms.ensures in done_part h

pub returns : goal.returns
returns c = let h = filled c.args.ruler c.args.xs.now c.blank-places.result c.bin_atoms.new.places c.requires.small c.blank-places.ensures c.requires.xs_len_bound.0 c.bin_atoms.ensures in record { value = c.rows_touching.ensures ∙ done_rows h refl _; starts_after = c.sort.ensures.starts_after ∙ laid_starts h c.args.starts.now c.args.items.now c.cell_count-count.ensures (rw c.cell_count-count.ensures c.requires.xs_len_bound.1) c.requires.xs_len_bound.2; after = c.sort.ensures.after ∙ laid_items h c.args.starts.now c.args.items.now c.cell_count-count.ensures (rw c.cell_count-count.ensures c.requires.xs_len_bound.1) c.requires.xs_len_bound.2 }
