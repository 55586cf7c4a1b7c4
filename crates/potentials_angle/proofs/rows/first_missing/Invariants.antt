use Prim.Native.Nat.{◌+◌, ◌-◌, ◌/◌}
use Rattle.lists.specs.Lists.{numbers, first_where}
use Rattle.potentials_angle.specs.Rows.{corner_at, is_missing, missing_of}
use lib.ListN.{length}
use mathlib.Core.Path.{◌≡◌}
use Rattle.potentials_angle.proofs.rows.first_missing.Given as goal

abbrev pub invariant-loop-r : goal.invariant-loop-r
invariant-loop-r l = missing_of l.n l.angles ≡ l.r + first_where (λ k. is_missing l.n (corner_at l.angles k)) (numbers l.r (length l.angles / 3 - l.r))
