-- The invariant: the first k floats are kicked, the others as they came. Assumes nothing.
use Prim.Native.Nat.{◌≤◌, ◌-◌}
use Rattle.lists.specs.Loops.{part_at}
use Rattle.verlet.specs.Verlet.{kick_at}
use lib.ListN.{length}
use mathlib.Core.Path.{◌≡◌}
use Rattle.verlet.proofs.moves.kick_all.Given as goal

abbrev pub invariant-loop-k : goal.invariant-loop-k
invariant-loop-k l = (l.k ≤ length l.initial.vs) × (length l.vs ≡ length l.initial.vs) × (l.vs ≡ part_at (kick_at l.accel l.h l.fs l.ms) l.k l.initial.vs)
