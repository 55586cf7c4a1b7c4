use Rattle.lists.specs.Lists.{every}
use Rattle.ranges.specs.Ranged.{within}
use lib.ListN.{drop}
use mathlib.Core.Bool.{◌&&◌}
use mathlib.Core.Path.{◌≡◌}
use Rattle.ranges.proofs.all_within.Given as goal

abbrev pub invariant-loop-x : goal.invariant-loop-x
invariant-loop-x l = (every (within l.limit) l.xs ≡ (l.ok && every (within l.limit) (drop l.x-index l.xs)))
