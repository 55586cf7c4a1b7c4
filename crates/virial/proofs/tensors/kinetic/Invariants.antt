-- The invariant: p is the kinetic tensor of the first i atoms. Assumes nothing.
use Prim.Native.Nat.{◌/◌, min}
use Rattle.virial.specs.Virial.{kinetic_of}
use lib.ListN.{length}
use mathlib.Core.Path.{◌≡◌}
use Rattle.virial.proofs.tensors.kinetic.Given as goal

abbrev pub invariant-loop-i : goal.invariant-loop-i
invariant-loop-i l = (l.n ≡ min (length l.vs / 3) (length l.ms)) × (l.p ≡ kinetic_of l.unit l.vs l.ms l.i)
