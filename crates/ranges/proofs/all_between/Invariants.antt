use Rattle.lists.specs.Lists.{every}
use Rattle.ranges.specs.Ranged.{between}
use lib.ListN.{drop}
use mathlib.Core.Bool.{◌&&◌}
use mathlib.Core.Path.{◌≡◌}
use Rattle.ranges.proofs.all_between.Given as goal

abbrev pub invariant-loop-x : goal.invariant-loop-x
invariant-loop-x l = (every (between l.low l.high) l.xs ≡ (l.ok && every (between l.low l.high) (drop l.x-index l.xs)))
