use Rattle.lists.proofs.Rows.{rows_at}
use Rattle.ranges.proofs.rows.is_absent.Goals as goal

pub returns : goal.returns
returns c = rw (c.wide-i.ensures, c.wide-j.ensures, rows_at c.args.table.now c.args.k c.requires)
