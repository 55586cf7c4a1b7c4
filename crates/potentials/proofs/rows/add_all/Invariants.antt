use Prim.Native.Nat.{◌≤◌}
use Rattle.lists.specs.Lists.{up_to}
use Rattle.potentials_pair.specs.Pull.{held}
use Rattle.potentials.proofs.Folds.{Left}
use Rattle.potentials.specs.Rows.{kept_step}
use lib.ListN.{length}
use mathlib.Core.List.{foldl}
use mathlib.Core.Path.{◌≡◌}
use Rattle.potentials.proofs.rows.add_all.Given as goal

abbrev pub invariant-loop-m : goal.invariant-loop-m
invariant-loop-m l = (l.m ≤ l.n) × (length l.forces ≡ length l.initial.forces) × Left (kept_step l.table l.from l.kept l.ways l.pulls) (up_to l.n) l.m (held l.s l.forces) (foldl (kept_step l.table l.from l.kept l.ways l.pulls) (held l.initial.s l.initial.forces) (up_to l.n))
