use Prim.Native.Nat.{◌≤◌, ◌-◌, ◌/◌}
use Rattle.lists.specs.Lists.{numbers, every}
use Rattle.potentials_angle.specs.Ranged.{angle_in_range, angle_row, per_angle_in_range}
use lib.ListN.{length}
use mathlib.Core.Path.{◌≡◌}
use Rattle.potentials_angle.proofs.ranged.per_angle_in_range.Given as goal

abbrev pub invariant-loop-r : goal.invariant-loop-r
invariant-loop-r l = (l.r ≤ length l.per_angle / 2) × (per_angle_in_range l.per_angle ≡ every (λ k. angle_in_range (angle_row l.per_angle k)) (numbers l.r (length l.per_angle / 2 - l.r)))
