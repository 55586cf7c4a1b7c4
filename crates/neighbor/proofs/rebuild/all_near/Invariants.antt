use Rattle.std.proofs.Common.{◌*◌}
use Rattle.float.specs.Arith.{at, ◌⊖◌}
use Rattle.neighbor.proofs.Asking.{Looking}
use Rattle.ranges.specs.Ranged.{within}
use Rattle.neighbor.proofs.rebuild.all_near.Given as goal

abbrev pub invariant-loop-k : goal.invariant-loop-k
invariant-loop-k l = Looking (λ k. within l.t (at l.xs k ⊖ at l.refs k)) (3 * l.from) l.end l.ok l.k
