use Rattle.lists.proofs.Rows.{length_rows}
use Rattle.lists.proofs.Walks.{first_passes, first_fails, first_past}
use Rattle.lists.specs.Lists.{rows}
use Rattle.ranges.proofs.Looked.{absent_past}
use Rattle.ranges.specs.Rows.{is_absent, absent_of}
use mathlib.Core.Path.{sym, ◌∙◌}
use native.Mathlib.Omega.{arith}
use Rattle.ranges.proofs.rows.first_absent.Goals as goal

pub returns-then-all_there : goal.returns-then-all_there
returns-then-all_there c = absent_past c.all_there.ensures c.if-all_there.true

pub loop-k-init : goal.loop-k-init
loop-k-init c = unfold absent_of in omega arith

pub returns-then-is_absent : goal.returns-then-is_absent
returns-then-is_absent c = omega (arith, c.loop-k.invariant, first_passes (0, 0) (rows c.args.table.now) c.loop-k.k (is_absent c.args.n) (omega (arith, length_rows c.args.table.now)) (sym c.is_absent.ensures ∙ c.if-is_absent.true))

pub loop-k-preserved : goal.loop-k-preserved
loop-k-preserved c = c.loop-k.invariant ∙ omega (arith, first_fails (0, 0) (rows c.args.table.now) c.loop-k.k (is_absent c.args.n) (omega (arith, length_rows c.args.table.now)) (sym c.is_absent.ensures ∙ c.if-is_absent.false))

pub returns : goal.returns
returns c = omega (arith, c.loop-k.invariant, first_past (0, 0) (rows c.args.table.now) c.loop-k.k (is_absent c.args.n) (omega (arith, length_rows c.args.table.now)))
