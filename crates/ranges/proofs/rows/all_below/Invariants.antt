use Rattle.lists.specs.Lists.{every}
use Rattle.ranges.specs.Rows.{is_below}
use lib.ListN.{drop}
use mathlib.Core.Bool.{◌&&◌}
use mathlib.Core.Path.{◌≡◌}
use Rattle.ranges.proofs.rows.all_below.Given as goal

abbrev pub invariant-loop-x : goal.invariant-loop-x
invariant-loop-x l = (every (is_below l.n) l.table ≡ (l.ok && every (is_below l.n) (drop l.x-index l.table)))
