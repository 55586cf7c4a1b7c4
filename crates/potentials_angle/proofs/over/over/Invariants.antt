use Prim.Native.Nat.{◌≤◌, ◌/◌}
use Rattle.cell_prepared.specs.Facts.{image_in}
use Rattle.lists.specs.Lists.{up_to}
use Rattle.potentials.proofs.Folds.{Left}
use Rattle.potentials_angle.specs.Terms.{angle_step}
use Rattle.potentials_pair.specs.Pull.{held}
use lib.ListN.{length}
use mathlib.Core.List.{foldl}
use mathlib.Core.Path.{◌≡◌}
use Rattle.potentials_angle.proofs.over.over.Given as goal

abbrev pub invariant-loop-r : goal.invariant-loop-r
invariant-loop-r l = (l.r ≤ length l.angles.corners.now / 3) × (length l.forces ≡ length l.initial.forces) × Left (angle_step (λ d. image_in l.p d) l.angle l.angles.corners.now l.angles.per_angle.now l.xs) (up_to (length l.angles.corners.now / 3)) l.r (held l.s l.forces) (foldl (angle_step (λ d. image_in l.p d) l.angle l.angles.corners.now l.angles.per_angle.now l.xs) (held l.initial.s l.initial.forces) (up_to (length l.angles.corners.now / 3)))
