use Prim.Native.Nat.{◌≤◌}
use Rattle.potentials.specs.Rows.{AllInner}
use lib.ListN.{length}
use mathlib.Core.Path.{◌≡◌}
use Rattle.potentials.proofs.rows.settle.Given as goal

abbrev pub invariant-loop-t : goal.invariant-loop-t
invariant-loop-t l = (l.t ≤ l.n) × (length l.ways ≡ length l.initial.ways) × AllInner l.len l.o l.t l.initial.ways l.ways l.ok
