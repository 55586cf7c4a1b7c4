use Rattle.ranges.proofs.Looked.{all_next, all_past}
use Rattle.ranges.specs.Rows.{is_below}
use mathlib.Core.Path.{refl, sym, ◌∙◌}
use Rattle.ranges.proofs.rows.all_below.Goals as goal

pub loop-x-preserved : goal.loop-x-preserved
loop-x-preserved c = c.loop-x.invariant ∙ all_next 0 (is_below c.args.n) c.args.table.now c.loop-x.x-index c.loop-x.ok _ c.loop-x-test.true refl

pub returns : goal.returns
returns c = sym (c.loop-x.invariant ∙ all_past 0 (is_below c.args.n) c.args.table.now c.loop-x.x-index c.loop-x.ok c.loop-x-test.false)
