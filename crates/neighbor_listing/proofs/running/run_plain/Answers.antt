use Prim.Native.Nat.{ℕ, ◌/◌}
use Rattle.bins.proofs.Found.{plain_ready}
use Rattle.lists.proofs.Loops.{room_front}
use Rattle.neighbor_listing.proofs.Counts.{plain_ran, shown_is}
use Rattle.neighbor_listing.proofs.Numbered.{part_is, part_within, part_long, part_below}
use Rattle.neighbor_listing.proofs.Partners.{tops_part, tops_within, tops_long, cleared_front}
use Rattle.neighbor_listing.specs.Found.{scene_of}
use lib.ListN.{length}
use mathlib.Core.Bool.{true}
use mathlib.Core.Path.{ap, sym}
use native.Mathlib.Omega.{arith}
use Rattle.neighbor_listing.proofs.running.run_plain.Goals as goal

pub slice_bounds-raise_all-end : goal.slice_bounds-raise_all-end
slice_bounds-raise_all-end c = sym (room_front _ _ c.blank_tops-tops.ensures.long c.requires.1)

pub slice_bounds-number-end : goal.slice_bounds-number-end
slice_bounds-number-end c = sym (room_front _ _ c.blank-atoms.ensures c.requires.1)

pub number-requires : goal.number-requires
number-requires c = omega (arith, room_front c.blank-atoms.result (length c.args.xs.now / 3) c.blank-atoms.ensures c.requires.1, c.requires.1)

pub slice_bounds-tops-end-2 : goal.slice_bounds-tops-end-2
slice_bounds-tops-end-2 c = tops_within _ _ c.blank_tops-tops.ensures.long c.requires.1 c.raise_all.ensures c.raise_all.auto.tops

pub slice_bounds-consider_home-end : goal.slice_bounds-consider_home-end
slice_bounds-consider_home-end c = tops_long _ _ c.blank_tops-tops.ensures.long c.requires.1 c.raise_all.ensures c.raise_all.auto.tops

pub slice_bounds-atoms-end-2 : goal.slice_bounds-atoms-end-2
slice_bounds-atoms-end-2 c = part_within _ _ c.blank-atoms.ensures c.requires.1 c.number.ensures

pub slice_bounds-consider_home-end-2 : goal.slice_bounds-consider_home-end-2
slice_bounds-consider_home-end-2 c = part_long _ _ c.blank-atoms.ensures c.requires.1 c.number.ensures

pub consider_home-t-requires : goal.consider_home-t-requires
consider_home-t-requires c = (part_below _ _ c.blank-atoms.ensures c.requires.1 c.number.ensures, rw (c.none.ensures, part_is _ _ c.blank-atoms.ensures c.requires.1 c.number.ensures) (plain_ready (scene_of c.args.cell c.args.radius c.args.xs.now c.args.table.now) (length c.args.xs.now / 3) c.requires.1))

pub finish-requires : goal.finish-requires
finish-requires c = let z = plain_ran c.args.cell c.args.radius c.args.xs.now c.args.table.now c.requires.0 c.requires.1 c.sight_of-s.ensures (tops_part _ _ c.blank_tops-tops.ensures.long c.requires.1 c.raise_all.ensures c.raise_all.auto.tops) c.args.pairs.now c.requires.2 (rw (c.none.ensures, part_is _ _ c.blank-atoms.ensures c.requires.1 c.number.ensures) at c.consider_home-t.ensures) c.rows_below-excluded.ensures in (z.order, z.fits, z.few)

pub returns : goal.returns
returns c = let z = plain_ran c.args.cell c.args.radius c.args.xs.now c.args.table.now c.requires.0 c.requires.1 c.sight_of-s.ensures (tops_part _ _ c.blank_tops-tops.ensures.long c.requires.1 c.raise_all.ensures c.raise_all.auto.tops) c.args.pairs.now c.requires.2 (rw (c.none.ensures, part_is _ _ c.blank-atoms.ensures c.requires.1 c.number.ensures) at c.consider_home-t.ensures) c.rows_below-excluded.ensures in record { value = shown_is true c.finish.ensures z.count z.left (ap (λ (l : ℕ). l / 2) z.same); pairs_after = z.mem }

pub raise_all-requires : goal.raise_all-requires
raise_all-requires c = cleared_front (length c.args.xs.now / 3) (omega (arith, c.blank_tops-tops.ensures.long, c.requires.1)) c.blank_tops-tops.ensures.clear
