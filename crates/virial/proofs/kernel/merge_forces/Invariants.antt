-- The invariant: the forces are what they were, merged with the first k of the other list. Assumes nothing.
use Prim.Native.Nat.{min}
use Rattle.virial.specs.Virial.{merged_forces}
use lib.ListN.{length, take}
use mathlib.Core.Path.{◌≡◌}
use Rattle.virial.proofs.kernel.merge_forces.Given as goal

abbrev pub invariant-loop-k : goal.invariant-loop-k
invariant-loop-k l = (l.n ≡ min (length l.initial.forces) (length l.added)) × (length l.forces ≡ length l.initial.forces) × (l.forces ≡ merged_forces l.initial.forces (take l.k l.added))
