-- The invariant: what is left from k on decides. Assumes nothing.
use Prim.Native.Nat.{◌≤◌, ◌-◌}
use Rattle.lists.specs.Lists.{every}
use Rattle.verlet.specs.Parts.{coordinate}
use Rattle.verlet.specs.Verlet.{kicked_of, drifted_of}
use lib.ListN.{length, drop}
use mathlib.Core.Path.{◌≡◌}
use Rattle.verlet.proofs.moves.all_drift.Given as goal

abbrev pub invariant-loop-k : goal.invariant-loop-k
invariant-loop-k l = (l.k ≤ length l.xs) × (every coordinate (drifted_of l.dt (kicked_of l.units l.dt l.fs l.ms l.vs) l.xs) ≡ every coordinate (drop l.k (drifted_of l.dt (kicked_of l.units l.dt l.fs l.ms l.vs) l.xs)))
