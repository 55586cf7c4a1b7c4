use Rattle.lists.proofs.Walks.{any_default}
use lib.Ieee.{nan}
use lib.ListN.{get_or-eq_default}
use mathlib.Core.Path.{sym}
use Rattle.potentials_pair.proofs.kernel.table_at.Goals as goal

pub returns-then-k-table : goal.returns-then-k-table
returns-then-k-table c = any_default c.args.table.now c.args.k nan c.args.other c.if-k-table.true

pub returns : goal.returns
returns c = sym (get_or-eq_default c.args.table.now c.args.other c.if-k-table.false)
