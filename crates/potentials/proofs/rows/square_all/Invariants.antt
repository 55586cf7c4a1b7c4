use Prim.Native.Nat.{◌≤◌}
use Rattle.potentials.specs.Rows.{Squared}
use lib.ListN.{length}
use mathlib.Core.Path.{◌≡◌}
use Rattle.potentials.proofs.rows.square_all.Given as goal

abbrev pub invariant-loop-t : goal.invariant-loop-t
invariant-loop-t l = (l.t ≤ l.n) × (length l.ways ≡ length l.initial.ways) × Squared l.t l.initial.ways l.ways
