use Prim.Native.Nat.{◌+◌}
use Rattle.lists.specs.Lists.{rows, first_where}
use Rattle.ranges.specs.Rows.{is_absent, absent_of}
use lib.ListN.{drop}
use mathlib.Core.Path.{◌≡◌}
use Rattle.ranges.proofs.rows.first_absent.Given as goal

abbrev pub invariant-loop-k : goal.invariant-loop-k
invariant-loop-k l = absent_of l.n (rows l.table) ≡ l.k + first_where (is_absent l.n) (drop l.k (rows l.table))
