use Prim.Native.Nat.{◌-◌, ◌≤◌}
use Rattle.float.specs.Arith.{at}
use Rattle.strike.specs.Closed.{link_survives}
use Rattle.strike.specs.Steps.{Closed}
use Rattle.strike.proofs.closing.close_beside.Given as goal

abbrev pub invariant-loop-k : goal.invariant-loop-k
invariant-loop-k l = (l.k ≤ l.rows) × Closed (at l.initial.xs) l.width (link_survives l.marks l.per l.links l.names) l.k l.initial.xs l.to l.xs
