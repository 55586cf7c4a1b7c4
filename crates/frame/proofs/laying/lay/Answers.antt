use Prim.Native.Nat.{◌/◌}
use Rattle.bins.specs.Stencil.{cells}
use Rattle.bins.proofs.Tables.{done_within, done_part, laid_starts, laid_items}
use Rattle.candidates.proofs.Counted.{done_rows}
use Rattle.frame.proofs.Tables.{filled}
use Rattle.lists.proofs.Loops.{room_front}
use lib.ListN.{length}
use mathlib.Core.Path.{◌∙◌, sym, ap}
use native.Mathlib.Omega.{arith}
use Rattle.frame.proofs.laying.lay.Goals as goal

pub slice_bounds-bin_atoms-end : goal.slice_bounds-bin_atoms-end
slice_bounds-bin_atoms-end c = sym (room_front c.blank-places.result (length c.args.xs.now / 3) c.blank-places.ensures c.requires.xs_len_bound.0)

pub bin_atoms-requires : goal.bin_atoms-requires
bin_atoms-requires c = record { framed = c.requires.framed; places_in_bounds = omega (arith, room_front c.blank-places.result (length c.args.xs.now / 3) c.blank-places.ensures c.requires.xs_len_bound.0) }

pub slice_bounds-places-end-2 : goal.slice_bounds-places-end-2
slice_bounds-places-end-2 c = let h = filled c.args.f c.args.xs.now c.requires.framed.0 c.blank-places.result c.bin_atoms.new.places c.blank-places.ensures c.requires.xs_len_bound.0 c.bin_atoms.ensures in done_within h

pub slice_bounds-sort_in-end : goal.slice_bounds-sort_in-end
slice_bounds-sort_in-end c = let h = filled c.args.f c.args.xs.now c.requires.framed.0 c.blank-places.result c.bin_atoms.new.places c.blank-places.ensures c.requires.xs_len_bound.0 c.bin_atoms.ensures in done_part h

pub returns : goal.returns
returns c = let h = filled c.args.f c.args.xs.now c.requires.framed.0 c.blank-places.result c.bin_atoms.new.places c.blank-places.ensures c.requires.xs_len_bound.0 c.bin_atoms.ensures in record { value = c.sort_in.ensures.value ∙ done_rows h c.requires.framed.1.is _; starts_after = c.sort_in.ensures.starts_after ∙ laid_starts h c.args.starts.now c.args.items.now (ap cells c.requires.framed.1.is) c.requires.xs_len_bound.1 c.requires.xs_len_bound.2; after = c.sort_in.ensures.after ∙ laid_items h c.args.starts.now c.args.items.now (ap cells c.requires.framed.1.is) c.requires.xs_len_bound.1 c.requires.xs_len_bound.2 }
