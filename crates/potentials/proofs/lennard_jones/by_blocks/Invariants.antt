use Prim.Native.Nat.{◌≤◌, ◌-◌, ◌/◌}
use Rattle.lists.specs.Lists.{rows}
use Rattle.potentials_pair.specs.Pull.{held}
use Rattle.potentials_pair.specs.Species.{tables_of}
use Rattle.potentials.proofs.Folds.{Left}
use Rattle.potentials.specs.Steps.{lj_step, Kept}
use lib.ListN.{length}
use mathlib.Core.List.{foldl}
use mathlib.Core.Path.{◌≡◌}
use Rattle.potentials.proofs.lennard_jones.by_blocks.Given as goal

abbrev pub invariant-loop-k : goal.invariant-loop-k
invariant-loop-k l = (l.k ≤ length l.table / 2) × (length l.ways ≡ length l.initial.ways) × (length l.pulls ≡ length l.initial.pulls) × (length l.forces ≡ length l.initial.forces) × Kept l.lj (tables_of l.tables) l.atoms l.room × Left (lj_step l.lj l.p (tables_of l.tables) l.species l.xs) (rows l.table) l.k (held l.s l.forces) (foldl (lj_step l.lj l.p (tables_of l.tables) l.species l.xs) (held l.initial.s l.initial.forces) (rows l.table))

abbrev pub decreases-loop-k : goal.decreases-loop-k
decreases-loop-k l = length l.table / 2 - l.k
