use Rattle.sheet_written.proofs.Cases.{too_long, as_tested}
use Rattle.sheet_written.proofs.asked.table_fits.Goals as goal

pub returns-then-table-gt1024 : goal.returns-then-table-gt1024
returns-then-table-gt1024 c = too_long _ c.if-table-gt1024.true

pub returns : goal.returns
returns c = as_tested _ c.if-table-gt1024.false c.is_table-ascending.ensures c.four_digits-short.ensures
