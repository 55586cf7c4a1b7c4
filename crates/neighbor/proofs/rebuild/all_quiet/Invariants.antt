use Rattle.std.proofs.Common.{length}
use Rattle.float.specs.Arith.{at}
use Rattle.neighbor_asked.specs.Strays.{quiet_at}
use Rattle.neighbor.proofs.Asking.{Looking}
use Rattle.neighbor.proofs.rebuild.all_quiet.Given as goal

abbrev pub invariant-loop-k : goal.invariant-loop-k
invariant-loop-k l = Looking (λ k. quiet_at l.t (at l.xs k) (at l.refs k)) 0 (length l.xs) l.ok l.k
