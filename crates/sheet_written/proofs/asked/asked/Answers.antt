use Rattle.frame.proofs.Ranges.{failed, passed}
use Rattle.sheet_written.proofs.Cases.{ask_lengths, ask_many, ask_range, ask_table, ask_fine}
use mathlib.Core.Path.{◌∙◌, sym}
use Rattle.std.proofs.Common.{ap, not}
use Rattle.sheet_written.proofs.asked.asked.Goals as goal

pub returns-then-uneven : goal.returns-then-uneven
returns-then-uneven c = ask_lengths _ _ _ (sym c.uneven.ensures ∙ c.if-uneven.true)

pub returns-then-n-gt1024 : goal.returns-then-n-gt1024
returns-then-n-gt1024 c = ask_many _ _ _ (sym c.uneven.ensures ∙ c.if-uneven.false) c.if-n-gt1024.true

pub returns-then-not-ranges_ok : goal.returns-then-not-ranges_ok
returns-then-not-ranges_ok c = ask_range _ _ _ (sym c.uneven.ensures ∙ c.if-uneven.false) c.if-n-gt1024.false (failed c.ranges_ok.ensures (ap not c.if-not-ranges_ok.true))

pub returns-then-not-table_fits : goal.returns-then-not-table_fits
returns-then-not-table_fits c = ask_table _ _ _ (sym c.uneven.ensures ∙ c.if-uneven.false) c.if-n-gt1024.false (passed c.ranges_ok.ensures (ap not c.if-not-ranges_ok.false)) (failed c.table_fits.ensures (ap not c.if-not-table_fits.true))

pub returns : goal.returns
returns c = ask_fine _ _ _ (sym c.uneven.ensures ∙ c.if-uneven.false) c.if-n-gt1024.false (passed c.ranges_ok.ensures (ap not c.if-not-ranges_ok.false)) (passed c.table_fits.ensures (ap not c.if-not-table_fits.false))
