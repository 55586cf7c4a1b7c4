use Rattle.ranges.proofs.Looked.{all_next, all_past}
use Rattle.ranges.specs.Ranged.{within}
use lib.Ieee.{nan}
use mathlib.Core.Path.{sym, ◌∙◌}
use Rattle.ranges.proofs.all_within.Goals as goal

pub loop-x-preserved : goal.loop-x-preserved
loop-x-preserved c = c.loop-x.invariant ∙ all_next nan (within c.args.limit) c.args.xs.now c.loop-x.x-index c.loop-x.ok _ c.loop-x-test.true c.is_within-ok.ensures

pub returns : goal.returns
returns c = sym (c.loop-x.invariant ∙ all_past nan (within c.args.limit) c.args.xs.now c.loop-x.x-index c.loop-x.ok c.loop-x-test.false)
