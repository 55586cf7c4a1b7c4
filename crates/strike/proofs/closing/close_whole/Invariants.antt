use Prim.Native.Nat.{◌-◌, ◌≤◌}
use Rattle.strike.specs.Closed.{survives}
use Rattle.strike.specs.Steps.{Closed}
use lib.ListN.{length, get_or}
use Rattle.strike.proofs.closing.close_whole.Given as goal

abbrev pub invariant-loop-k : goal.invariant-loop-k
invariant-loop-k l = (l.k ≤ length l.marks) × Closed (λ e. get_or l.initial.xs e 0) 1 (survives l.marks) l.k l.initial.xs l.to l.xs
