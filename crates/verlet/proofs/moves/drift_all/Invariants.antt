-- The invariant: the first k floats have drifted, the others are as they came. Assumes nothing.
use Prim.Native.Nat.{◌≤◌, ◌-◌}
use Rattle.lists.specs.Loops.{part_at}
use Rattle.verlet.specs.Verlet.{drift_at}
use lib.ListN.{length}
use mathlib.Core.Path.{◌≡◌}
use Rattle.verlet.proofs.moves.drift_all.Given as goal

abbrev pub invariant-loop-k : goal.invariant-loop-k
invariant-loop-k l = (l.k ≤ length l.initial.xs) × (length l.xs ≡ length l.initial.xs) × (l.xs ≡ part_at (drift_at l.dt l.vs) l.k l.initial.xs)
