use Prim.Native.Nat.{◌≤◌}
use Rattle.potentials.specs.Rows.{Differ}
use lib.ListN.{length}
use mathlib.Core.Path.{◌≡◌}
use Rattle.potentials.proofs.rows.lay.Given as goal

abbrev pub invariant-loop-t : goal.invariant-loop-t
invariant-loop-t l = (l.t ≤ l.n) × (length l.ways ≡ length l.initial.ways) × Differ l.xs l.table l.from l.t l.ways
