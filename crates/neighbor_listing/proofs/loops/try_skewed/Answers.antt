use Rattle.neighbor_listing.proofs.Flagging.{flags_bits, kept_ready, side_listed, taken_within, taken_count, rest_fits, none_listed}
use Rattle.neighbor_listing.proofs.Shortcuts.{reaches, none_reached}
use borrow.Author.Tests.{not-false}
use mathlib.Core.Bool.{true≢false, false≢true}
use mathlib.Core.Path.{◌∙◌, refl}
use native.Mathlib.Omega.{arith}
use Rattle.std.proofs.Common.{ap, not}
use Rattle.neighbor_listing.proofs.loops.try_skewed.Goals as goal

pub spot_at-a-requires : goal.spot_at-a-requires
spot_at-a-requires c = c.requires.0

pub overflow_sub-result : goal.overflow_sub-result
overflow_sub-result c = omega (arith, c.requires.2)

pub overflow_add-result : goal.overflow_add-result
overflow_add-result c = omega (arith, rest_fits c.args.i c.args.part.now c.args.from c.requires.7)

pub returns-then-r : goal.returns-then-r
returns-then-r c = record { lists = λ e. none_listed c.args.s c.args.xs.now c.args.i c.args.part.now c.args.from c.spot_at-a.ensures c.requires.4 (none_reached c.args.s c.spot_at-a.result c.args.w c.requires.8 c.tilted_reach-r.ensures c.if-r.true) c.args.tops.now c.args.table.now c.args.t c.args.pairs.now; kept = λ e. absurd (true≢false e) }

pub flag_skewed-requires : goal.flag_skewed-requires
flag_skewed-requires c = (c.requires.2, c.requires.3, c.requires.4.rooms, c.requires.5, reaches c.args.s c.spot_at-a.result c.args.w c.requires.8 c.tilted_reach-r.ensures)

pub shape_of-flags-then-not-flag_skewed : goal.shape_of-flags-then-not-flag_skewed
shape_of-flags-then-not-flag_skewed c = c.flag_skewed.auto.flags

pub returns-then-not-flag_skewed : goal.returns-then-not-flag_skewed
returns-then-not-flag_skewed c = record { lists = λ e. absurd (false≢true e); kept = λ e. refl }

pub gather-count-requires : goal.gather-count-requires
gather-count-requires c = (c.requires.2, c.requires.3, c.flag_skewed.auto.flags ∙ c.requires.5, c.requires.6, flags_bits _ _ _ _ _ _ c.spot_at-a.ensures c.requires.4 c.flag_skewed.ensures (not-false _ (ap not c.if-not-flag_skewed.false)))

pub slice_bounds-settle_all-end : goal.slice_bounds-settle_all-end
slice_bounds-settle_all-end c = taken_within c.gather-count.ensures c.requires.3 (c.gather-count.auto.room ∙ c.requires.6)

pub slice_bounds-settle_all-end-2 : goal.slice_bounds-settle_all-end-2
slice_bounds-settle_all-end-2 c = taken_count c.gather-count.ensures c.requires.3 (c.gather-count.auto.room ∙ c.requires.6)

pub settle_all-near-requires : goal.settle_all-near-requires
settle_all-near-requires c = kept_ready _ _ _ _ _ _ c.spot_at-a.ensures c.requires.4 c.flag_skewed.ensures (not-false _ (ap not c.if-not-flag_skewed.false)) c.gather-count.ensures c.requires.7

pub overflow_sub-result-2 : goal.overflow_sub-result-2
overflow_sub-result-2 c = omega (arith, c.requires.2)

pub overflow_add-result-2 : goal.overflow_add-result-2
overflow_add-result-2 c = omega (arith, rest_fits c.args.i c.args.part.now c.args.from c.requires.7)

pub shape_of-pairs : goal.shape_of-pairs
shape_of-pairs c = c.settle_all-near.auto.pairs

pub shape_of-flags : goal.shape_of-flags
shape_of-flags c = c.flag_skewed.auto.flags

pub shape_of-room : goal.shape_of-room
shape_of-room c = c.gather-count.auto.room

pub returns : goal.returns
returns c = record { lists = λ e. side_listed _ _ _ _ _ _ c.spot_at-a.ensures c.requires.4 c.flag_skewed.ensures (not-false _ (ap not c.if-not-flag_skewed.false)) c.gather-count.ensures _ _ _ _ _ _ c.settle_all-near.ensures; kept = λ e. absurd (true≢false e) }
