use Prim.Native.Nat.{◌≤◌}
use Rattle.potentials.specs.Rows.{NearPicked}
use lib.ListN.{length}
use mathlib.Core.Path.{◌≡◌}
use Rattle.potentials.proofs.lennard_jones.keep.Given as goal

abbrev pub invariant-loop-t : goal.invariant-loop-t
invariant-loop-t l = (l.t ≤ l.n) × (length l.atoms ≡ length l.initial.atoms) × (length l.room ≡ length l.initial.room) × NearPicked l.cutoff l.ways l.t l.initial.atoms l.atoms l.initial.room l.room l.c
