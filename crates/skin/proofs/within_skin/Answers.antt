use Rattle.frame.proofs.Ranges.{failed, passed}
use Rattle.skin.proofs.Skin.{counts_same, skin_lengths, skin_many, skin_wide, skin_old, skin_new, skin_fine}
use mathlib.Core.Path.{sym, ◌∙◌}
use Rattle.std.proofs.Common.{ap, not}
use Rattle.skin.proofs.within_skin.Goals as goal

pub returns-then-counts_differ : goal.returns-then-counts_differ
returns-then-counts_differ c = skin_lengths _ _ _ _ (sym c.counts_differ.ensures ∙ c.if-counts_differ.true)

pub returns-then-n-gt16384 : goal.returns-then-n-gt16384
returns-then-n-gt16384 c = skin_many _ _ _ _ (sym c.counts_differ.ensures ∙ c.if-counts_differ.false) c.if-n-gt16384.true

pub returns-then-radius-gt1048576 : goal.returns-then-radius-gt1048576
returns-then-radius-gt1048576 c = skin_wide _ _ _ _ (sym c.counts_differ.ensures ∙ c.if-counts_differ.false) c.if-n-gt16384.false c.if-radius-gt1048576.true

pub returns-then-not-ranges_ok : goal.returns-then-not-ranges_ok
returns-then-not-ranges_ok c = skin_old _ _ _ _ (sym c.counts_differ.ensures ∙ c.if-counts_differ.false) c.if-n-gt16384.false (failed c.ranges_ok.ensures (ap not c.if-not-ranges_ok.true))

pub returns-then-not-ranges_ok-2 : goal.returns-then-not-ranges_ok-2
returns-then-not-ranges_ok-2 c = skin_new _ _ _ _ (sym c.counts_differ.ensures ∙ c.if-counts_differ.false) c.if-n-gt16384.false (passed c.ranges_ok.ensures (ap not c.if-not-ranges_ok.false)) (failed c.ranges_ok-2.ensures (ap not c.if-not-ranges_ok-2.true))

pub all_moved_little-requires : goal.all_moved_little-requires
all_moved_little-requires c = (passed c.ranges_ok.ensures (ap not c.if-not-ranges_ok.false), passed c.ranges_ok-2.ensures (ap not c.if-not-ranges_ok-2.false), counts_same _ _ (sym c.counts_differ.ensures ∙ c.if-counts_differ.false))

pub returns : goal.returns
returns c = skin_fine _ _ _ _ (sym c.counts_differ.ensures ∙ c.if-counts_differ.false) c.if-n-gt16384.false (passed c.ranges_ok.ensures (ap not c.if-not-ranges_ok.false)) (passed c.ranges_ok-2.ensures (ap not c.if-not-ranges_ok-2.false)) c.all_moved_little.ensures
