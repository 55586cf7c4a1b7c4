use Prim.Native.Nat.{◌-◌, ◌≤◌}
use Rattle.strike.specs.Closed.{row_survives, new_number}
use Rattle.strike.specs.Steps.{Closed}
use lib.ListN.{get_or}
use Rattle.strike.proofs.closing.close_names.Given as goal

abbrev pub invariant-loop-k : goal.invariant-loop-k
invariant-loop-k l = (l.k ≤ l.rows) × Closed (λ e. new_number l.marks (get_or l.initial.names e 0)) l.width (row_survives l.marks l.width l.initial.names) l.k l.initial.names l.to l.names
