use Prim.Native.Nat.{ℕ, ◌<◌}
use lib.ListN.{length, get_or}
use mathlib.Core.Path.{◌≡◌}
use Rattle.clumps_label.proofs.forest.plant.Given as goal

abbrev pub invariant-loop-i : goal.invariant-loop-i
invariant-loop-i l = (length l.p ≡ length l.initial.p) × ((j : ℕ) → j < l.i → get_or l.p j 0 ≡ j)
