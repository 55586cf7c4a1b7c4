use Rattle.neighbor.proofs.Asking.{table_fine, table_bad}
use Rattle.neighbor.proofs.asked.asked_table.Goals as goal

pub returns-then-is_table : goal.returns-then-is_table
returns-then-is_table c = table_fine _ c.is_table.ensures c.if-is_table.true

pub returns : goal.returns
returns c = table_bad _ c.is_table.ensures c.if-is_table.false
