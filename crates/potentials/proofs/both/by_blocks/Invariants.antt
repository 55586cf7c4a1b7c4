use Prim.Native.Nat.{◌≤◌, ◌-◌, ◌/◌}
use Rattle.lists.specs.Lists.{rows}
use Rattle.potentials_pair.specs.Pull.{held}
use Rattle.potentials_pair.specs.Species.{tables_of}
use Rattle.potentials.proofs.Folds.{Left}
use Rattle.potentials.specs.Steps.{lj_step, coulomb_step, Kept}
use lib.ListN.{length}
use mathlib.Core.List.{foldl}
use mathlib.Core.Path.{◌≡◌}
use Rattle.potentials.proofs.both.by_blocks.Given as goal

abbrev pub invariant-loop-k : goal.invariant-loop-k
invariant-loop-k l = (l.k ≤ length l.table / 2) × (length l.ways ≡ length l.initial.ways) × (length l.two ≡ length l.initial.two) × (length l.pulls ≡ length l.initial.pulls) × (length l.forces ≡ length l.initial.forces) × (length l.others ≡ length l.initial.others) × Kept l.lj (tables_of l.tables) l.atoms l.room × Left (lj_step l.lj l.p (tables_of l.tables) l.species l.xs) (rows l.table) l.k (held l.s l.forces) (foldl (lj_step l.lj l.p (tables_of l.tables) l.species l.xs) (held l.initial.s l.initial.forces) (rows l.table)) × Left (coulomb_step l.ke l.cutoff l.p l.charges l.xs) (rows l.table) l.k (held l.t l.others) (foldl (coulomb_step l.ke l.cutoff l.p l.charges l.xs) (held l.initial.t l.initial.others) (rows l.table))

abbrev pub decreases-loop-k : goal.decreases-loop-k
decreases-loop-k l = length l.table / 2 - l.k
