use Rattle.frame.proofs.Ranges.{asked_lengths, asked_many, asked_range, asked_order, asked_fine, failed, passed}
use mathlib.Core.Path.{◌∙◌, sym}
use Rattle.std.proofs.Common.{ap, not}
use Rattle.frame.proofs.asked.asked.Goals as goal

pub returns-then-lengths_bad : goal.returns-then-lengths_bad
returns-then-lengths_bad c = asked_lengths _ _ _ _ (sym c.lengths_bad.ensures ∙ c.if-lengths_bad.true)

pub returns-then-n-gt16384 : goal.returns-then-n-gt16384
returns-then-n-gt16384 c = asked_many _ _ _ _ (sym c.lengths_bad.ensures ∙ c.if-lengths_bad.false) c.if-n-gt16384.true

pub returns-then-not-ranges_ok : goal.returns-then-not-ranges_ok
returns-then-not-ranges_ok c = asked_range _ _ _ _ (sym c.lengths_bad.ensures ∙ c.if-lengths_bad.false) c.if-n-gt16384.false (failed c.ranges_ok.ensures (ap not c.if-not-ranges_ok.true))

pub returns-then-not-is_table : goal.returns-then-not-is_table
returns-then-not-is_table c = asked_order _ _ _ _ (sym c.lengths_bad.ensures ∙ c.if-lengths_bad.false) c.if-n-gt16384.false (passed c.ranges_ok.ensures (ap not c.if-not-ranges_ok.false)) (failed c.is_table.ensures (ap not c.if-not-is_table.true))

pub returns : goal.returns
returns c = asked_fine _ _ _ _ (sym c.lengths_bad.ensures ∙ c.if-lengths_bad.false) c.if-n-gt16384.false (passed c.ranges_ok.ensures (ap not c.if-not-ranges_ok.false)) (passed c.is_table.ensures (ap not c.if-not-is_table.false))
