use Prim.Native.Nat.{◌≤◌}
use Rattle.bins.proofs.Runs.{Run}
use Rattle.neighbor_listing.specs.Steps.{chosen_by}
use Rattle.lists.specs.Lists.{with_each}
use lib.ListN.{length, drop}
use mathlib.Core.Path.{◌≡◌}
use Rattle.neighbor_listing.proofs.loops.settle_all.Given as goal

abbrev pub invariant-loop-j : goal.invariant-loop-j
invariant-loop-j l = (l.j-index ≤ length l.near) × (length l.pairs ≡ length l.initial.pairs) × Run (chosen_by l.tops l.table) (record { tally = l.initial.now; mem = l.initial.pairs }) (record { tally = l.now; mem = l.pairs }) (with_each l.i l.near) (with_each l.i (drop l.j-index l.near))
