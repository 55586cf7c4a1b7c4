use Prim.Native.Nat.{◌-◌, ◌≤◌}
use Rattle.float.specs.Arith.{at}
use Rattle.strike.specs.Closed.{survives}
use Rattle.strike.specs.Steps.{Closed}
use lib.ListN.{length}
use Rattle.strike.proofs.closing.close_atoms.Given as goal

abbrev pub invariant-loop-k : goal.invariant-loop-k
invariant-loop-k l = (l.k ≤ length l.marks) × Closed (at l.initial.xs) l.width (survives l.marks) l.k l.initial.xs l.to l.xs
