-- The invariant: the floats that were passed are scaled, the others as they came. Assumes nothing.
use Prim.Native.Nat.{◌≤◌, ◌-◌}
use Rattle.lists.specs.Loops.{part_at}
use Rattle.verlet.specs.Verlet.{scale_at}
use lib.ListN.{length}
use mathlib.Core.Path.{◌≡◌}
use Rattle.verlet.proofs.kernel.scale_all.Given as goal

abbrev pub invariant-loop-v : goal.invariant-loop-v
invariant-loop-v l = l.vs ≡ part_at (scale_at l.s) l.v-index l.initial.vs
