use Prim.Native.Nat.{◌≤◌}
use Rattle.lists.specs.Lists.{up_to}
use Rattle.potentials_pair.specs.Pull.{held}
use Rattle.potentials.proofs.Folds.{Left}
use Rattle.potentials.specs.Blocks.{bonded_step}
use lib.ListN.{length}
use mathlib.Core.List.{foldl}
use mathlib.Core.Path.{◌≡◌}
use Rattle.potentials.proofs.bonds.add_all.Given as goal

abbrev pub invariant-loop-m : goal.invariant-loop-m
invariant-loop-m l = (l.m ≤ l.n) × (length l.forces ≡ length l.initial.forces) × Left (bonded_step l.atoms l.apart l.roots l.pulls) (up_to l.n) l.m (held l.s l.forces) (foldl (bonded_step l.atoms l.apart l.roots l.pulls) (held l.initial.s l.initial.forces) (up_to l.n))
