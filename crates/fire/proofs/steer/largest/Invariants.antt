use Prim.Native.Nat.{◌≤◌}
use Rattle.fire.specs.Steer.{larger_at}
use Rattle.float.specs.Literals.{f0}
use Rattle.lists.specs.Loops.{fold_up_to}
use lib.ListN.{length}
use mathlib.Core.Path.{◌≡◌}
use Rattle.fire.proofs.steer.largest.Given as goal

abbrev pub invariant-loop-f : goal.invariant-loop-f
invariant-loop-f l = (l.f-index ≤ length l.fs) × (l.m ≡ fold_up_to (larger_at l.fs) l.f-index f0)
