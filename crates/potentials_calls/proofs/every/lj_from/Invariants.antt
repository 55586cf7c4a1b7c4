use Prim.Native.Nat.{◌/◌}
use Rattle.lists.specs.Lists.{all_pairs}
use Rattle.potentials.specs.Steps.{lj_step}
use Rattle.potentials_calls.specs.AllPairs.{pairs_from, PairsLeft}
use Rattle.potentials_pair.specs.Pull.{held}
use Rattle.potentials_pair.specs.Species.{tables_of}
use lib.ListN.{length}
use mathlib.Core.List.{foldl}
use mathlib.Core.Path.{◌≡◌}
use Rattle.potentials_calls.proofs.every.lj_from.Given as goal

abbrev pub invariant-loop-j : goal.invariant-loop-j
invariant-loop-j l = (length l.table ≡ length l.initial.table) × (length l.forces ≡ length l.initial.forces) × PairsLeft (lj_step l.lj l.p (tables_of l.tables) l.species l.xs) (length l.xs / 3) l.i l.j (held l.s l.forces) (foldl (lj_step l.lj l.p (tables_of l.tables) l.species l.xs) (held l.initial.s l.initial.forces) (all_pairs (length l.xs / 3)))

abbrev pub decreases-loop-j : goal.decreases-loop-j
decreases-loop-j l = length (pairs_from (length l.xs / 3) l.i l.j)
