use Rattle.ranges.proofs.Looked.{all_next, all_past}
use Rattle.ranges.specs.Ranged.{between}
use lib.Ieee.{nan}
use mathlib.Core.Path.{sym, ◌∙◌}
use Rattle.ranges.proofs.all_between.Goals as goal

pub loop-x-preserved : goal.loop-x-preserved
loop-x-preserved c = c.loop-x.invariant ∙ all_next nan (between c.args.low c.args.high) c.args.xs.now c.loop-x.x-index c.loop-x.ok _ c.loop-x-test.true c.is_between-ok.ensures

pub returns : goal.returns
returns c = sym (c.loop-x.invariant ∙ all_past nan (between c.args.low c.args.high) c.args.xs.now c.loop-x.x-index c.loop-x.ok c.loop-x-test.false)
