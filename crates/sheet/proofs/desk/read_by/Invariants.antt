use Prim.Native.Nat.{◌-◌}
use Rattle.sheet.proofs.Turning.{Half}
use lib.ListN.{length}
use Rattle.sheet.proofs.desk.read_by.Given as goal

abbrev pub invariant-loop-at : goal.invariant-loop-at
invariant-loop-at g l = goal.F-IsAlwaysCallable g l.line_from × Half (goal.F-post g l.line_from) (length l.s) l.initial.coords l.initial.seen l.coords l.seen l.table l.desk l.at l.n

abbrev pub decreases-loop-at : goal.decreases-loop-at
decreases-loop-at g l = length l.s - l.at
