use Prim.Native.Nat.{◌≤◌, ◌-◌, ◌/◌}
use Rattle.lists.specs.Lists.{rows}
use Rattle.potentials_pair.specs.Pull.{held}
use Rattle.potentials.proofs.Folds.{Left}
use Rattle.potentials.specs.Steps.{coulomb_step}
use lib.ListN.{length}
use mathlib.Core.List.{foldl}
use mathlib.Core.Path.{◌≡◌}
use Rattle.potentials.proofs.coulomb.by_blocks.Given as goal

abbrev pub invariant-loop-k : goal.invariant-loop-k
invariant-loop-k l = (l.k ≤ length l.table / 2) × (length l.ways ≡ length l.initial.ways) × (length l.two ≡ length l.initial.two) × (length l.pulls ≡ length l.initial.pulls) × (length l.forces ≡ length l.initial.forces) × Left (coulomb_step l.ke l.cutoff l.p l.charges l.xs) (rows l.table) l.k (held l.s l.forces) (foldl (coulomb_step l.ke l.cutoff l.p l.charges l.xs) (held l.initial.s l.initial.forces) (rows l.table))

abbrev pub decreases-loop-k : goal.decreases-loop-k
decreases-loop-k l = length l.table / 2 - l.k
