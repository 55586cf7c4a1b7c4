use Rattle.neighbor_listing.proofs.Flagging.{flags_bits, kept_ready, side_listed, taken_within, taken_count, rest_fits, none_listed}
use Rattle.neighbor_listing.proofs.Shortcuts.{reaches, none_reached, shared_at}
use lib.ListN.{length}
use mathlib.Core.Bool.{true}
use mathlib.Core.Path.{◌∙◌, refl, ◌≡◌}
use native.Mathlib.Nat.{sub-zero}
use native.Mathlib.Omega.{arith}
use Rattle.neighbor_listing.proofs.loops.see_shared.Goals as goal

pub reach_shared-r-requires : goal.reach_shared-r-requires
reach_shared-r-requires c = (shared_at c.spot_at-a.ensures c.requires.7, c.requires.8)

pub overflow_add-result : goal.overflow_add-result
overflow_add-result c = omega (arith, rest_fits c.args.i c.args.part.now 0 c.requires.5)

pub returns-then-r : goal.returns-then-r
returns-then-r c = rw (sub-zero (length c.args.part.now)) at (none_listed c.args.s c.args.xs.now c.args.i c.args.part.now 0 c.spot_at-a.ensures c.requires.2 (none_reached c.args.s c.spot_at-a.result c.args.w c.requires.6 c.reach_shared-r.ensures.0 c.if-r.true) c.args.tops.now c.args.table.now c.args.t c.args.pairs.now)

pub flag_single-requires : goal.flag_single-requires
flag_single-requires c = (omega arith, c.requires.1, c.requires.2.rooms, c.requires.3, reaches c.args.s c.spot_at-a.result c.args.w c.requires.6 c.reach_shared-r.ensures.0, c.reach_shared-r.ensures.1)

pub gather-count-requires : goal.gather-count-requires
gather-count-requires c = (omega arith, c.requires.1, c.flag_single.auto.flags ∙ c.requires.3, c.requires.4, flags_bits _ _ _ _ _ _ c.spot_at-a.ensures c.requires.2 (record { hold = λ (e : true ≡ true). c.flag_single.ensures }) refl)

pub slice_bounds-settle_all-end : goal.slice_bounds-settle_all-end
slice_bounds-settle_all-end c = taken_within c.gather-count.ensures c.requires.1 (c.gather-count.auto.room ∙ c.requires.4)

pub slice_bounds-settle_all-end-2 : goal.slice_bounds-settle_all-end-2
slice_bounds-settle_all-end-2 c = taken_count c.gather-count.ensures c.requires.1 (c.gather-count.auto.room ∙ c.requires.4)

pub settle_all-near-requires : goal.settle_all-near-requires
settle_all-near-requires c = kept_ready _ _ _ _ _ _ c.spot_at-a.ensures c.requires.2 (record { hold = λ (e : true ≡ true). c.flag_single.ensures }) refl c.gather-count.ensures c.requires.5

pub overflow_add-result-2 : goal.overflow_add-result-2
overflow_add-result-2 c = omega (arith, rest_fits c.args.i c.args.part.now 0 c.requires.5)

pub returns : goal.returns
returns c = rw (sub-zero (length c.args.part.now)) at (side_listed _ _ _ _ _ _ c.spot_at-a.ensures c.requires.2 (record { hold = λ (e : true ≡ true). c.flag_single.ensures }) refl c.gather-count.ensures _ _ _ _ _ _ c.settle_all-near.ensures)
