use Rattle.neighbor_listing.proofs.Sifted.{room_long, room_near, room_within, room_count, ready_near, few_listed}
use mathlib.Core.Path.{sym}
use native.Mathlib.Omega.{arith}
use Rattle.neighbor_listing.proofs.loops.consider_few.Goals as goal

pub slice_bounds-sift-end : goal.slice_bounds-sift-end
slice_bounds-sift-end c = sym (room_long c.blank-room.result c.args.part.now c.blank-room.ensures c.requires.0)

pub sift-count-requires : goal.sift-count-requires
sift-count-requires c = (c.requires.1, omega (arith, room_long c.blank-room.result c.args.part.now c.blank-room.ensures c.requires.0), c.requires.2)

pub slice_bounds-room-end-2 : goal.slice_bounds-room-end-2
slice_bounds-room-end-2 c = room_within _ _ c.blank-room.ensures c.requires.0 c.sift-count.ensures c.sift-count.auto.room

pub slice_bounds-settle_all-end : goal.slice_bounds-settle_all-end
slice_bounds-settle_all-end c = room_count _ _ c.blank-room.ensures c.requires.0 c.sift-count.ensures c.sift-count.auto.room

pub settle_all-near-requires : goal.settle_all-near-requires
settle_all-near-requires c = ready_near _ _ _ _ (room_near _ _ c.blank-room.ensures c.requires.0 c.sift-count.ensures c.sift-count.auto.room) c.requires.3

pub returns : goal.returns
returns c = few_listed _ _ _ _ _ _ _ _ _ _ _ (room_near _ _ c.blank-room.ensures c.requires.0 c.sift-count.ensures c.sift-count.auto.room) c.settle_all-near.ensures
