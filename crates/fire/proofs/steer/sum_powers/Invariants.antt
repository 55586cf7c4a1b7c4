use Prim.Native.Nat.{◌≤◌, ◌/◌, min}
use Rattle.fire.specs.Steer.{powered_at, no_powers}
use Rattle.lists.specs.Loops.{fold_up_to}
use lib.ListN.{length}
use mathlib.Core.Path.{◌≡◌}
use Rattle.fire.proofs.steer.sum_powers.Given as goal

abbrev pub invariant-loop-i : goal.invariant-loop-i
invariant-loop-i l = (l.i ≤ l.n) × (l.n ≡ min (length l.fs / 3) (length l.vs / 3)) × (l.p ≡ fold_up_to (powered_at l.fs l.vs) l.i no_powers)
