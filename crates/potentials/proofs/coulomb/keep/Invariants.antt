use Prim.Native.Nat.{◌≤◌}
use Rattle.potentials.specs.Rows.{ChargesPicked}
use lib.ListN.{length}
use mathlib.Core.Path.{◌≡◌}
use Rattle.potentials.proofs.coulomb.keep.Given as goal

abbrev pub invariant-loop-t : goal.invariant-loop-t
invariant-loop-t l = (l.t ≤ l.n) × (length l.kept ≡ length l.initial.kept) × (length l.two ≡ length l.initial.two) × ChargesPicked l.ke l.cutoff l.charges l.table l.from l.ways l.t l.kept l.two l.c
