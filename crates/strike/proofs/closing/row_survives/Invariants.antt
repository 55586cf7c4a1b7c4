use Prim.Native.Nat.{◌-◌, ◌≤◌}
use Rattle.strike.proofs.Turns.{row_left}
use Rattle.strike.specs.Closed.{row_survives}
use mathlib.Core.Path.{◌≡◌}
use Rattle.strike.proofs.closing.row_survives.Given as goal

abbrev pub invariant-loop-c : goal.invariant-loop-c
invariant-loop-c l = (l.c ≤ l.width) × (row_survives l.marks l.width l.names l.k ≡ row_left l.marks l.width l.names l.k l.c)
