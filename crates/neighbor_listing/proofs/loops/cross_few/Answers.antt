use Rattle.neighbor_listing.proofs.Shortcuts.{shares_all}
use mathlib.Core.Path.{sym}
use Rattle.neighbor_listing.proofs.loops.cross_few.Goals as goal

pub slice_bounds-lay_out-end : goal.slice_bounds-lay_out-end
slice_bounds-lay_out-end c = sym c.blank_places-bx.ensures

pub slice_bounds-lay_out-end-2 : goal.slice_bounds-lay_out-end-2
slice_bounds-lay_out-end-2 c = sym c.blank_places-by.ensures

pub slice_bounds-lay_out-end-3 : goal.slice_bounds-lay_out-end-3
slice_bounds-lay_out-end-3 c = sym c.blank_places-bz.ensures

pub lay_out-requires : goal.lay_out-requires
lay_out-requires c = (c.requires.1, c.requires.2, record { x64 = c.blank_places-bx.ensures; y64 = c.blank_places-by.ensures; z64 = c.blank_places-bz.ensures })

pub slice_bounds-cross_shared-end-then-p-3 : goal.slice_bounds-cross_shared-end-then-p-3
slice_bounds-cross_shared-end-then-p-3 c = sym c.blank_flags-flags.ensures

pub slice_bounds-cross_shared-end-then-p-4 : goal.slice_bounds-cross_shared-end-then-p-4
slice_bounds-cross_shared-end-then-p-4 c = sym c.blank_room-room.ensures

pub cross_shared-requires : goal.cross_shared-requires
cross_shared-requires c = (c.requires.0, c.requires.2, c.lay_out.ensures, c.blank_flags-flags.ensures, c.blank_room-room.ensures, c.requires.3, c.bounds_of-w.ensures, shares_all c.shared_of-p.ensures c.requires.4, c.if-p.true)

pub shape_of-pairs-then-p : goal.shape_of-pairs-then-p
shape_of-pairs-then-p c = c.cross_shared.auto.pairs

pub returns-then-p : goal.returns-then-p
returns-then-p c = c.cross_shared.ensures

pub slice_bounds-cross_side-end : goal.slice_bounds-cross_side-end
slice_bounds-cross_side-end c = sym c.lay_out.ensures.rooms.x64

pub slice_bounds-cross_side-end-2 : goal.slice_bounds-cross_side-end-2
slice_bounds-cross_side-end-2 c = sym c.lay_out.ensures.rooms.y64

pub slice_bounds-cross_side-end-3 : goal.slice_bounds-cross_side-end-3
slice_bounds-cross_side-end-3 c = sym c.lay_out.ensures.rooms.z64

pub slice_bounds-cross_side-end-4 : goal.slice_bounds-cross_side-end-4
slice_bounds-cross_side-end-4 c = sym c.blank_flags-flags.ensures

pub slice_bounds-cross_side-end-5 : goal.slice_bounds-cross_side-end-5
slice_bounds-cross_side-end-5 c = sym c.blank_room-room.ensures

pub cross_side-requires : goal.cross_side-requires
cross_side-requires c = (c.requires.0, c.requires.1, c.requires.2, c.lay_out.ensures, c.blank_flags-flags.ensures, c.blank_room-room.ensures, c.requires.3, c.bounds_of-w.ensures, shares_all c.shared_of-p.ensures c.requires.4)

pub shape_of-pairs : goal.shape_of-pairs
shape_of-pairs c = c.cross_side.auto.pairs

pub returns : goal.returns
returns c = c.cross_side.ensures
