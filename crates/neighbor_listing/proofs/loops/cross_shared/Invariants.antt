use Prim.Native.Nat.{◌≤◌}
use Rattle.bins.proofs.Runs.{Run}
use Rattle.lists.specs.Lists.{across}
use Rattle.neighbor_listing.specs.Steps.{scene_by}
use lib.ListN.{length, drop}
use mathlib.Core.Path.{◌≡◌}
use Rattle.neighbor_listing.proofs.loops.cross_shared.Given as goal

abbrev pub invariant-loop-i : goal.invariant-loop-i
invariant-loop-i l = (l.i-index ≤ length l.home) × (length l.pairs ≡ length l.initial.pairs) × (length l.flags ≡ 64) × (length l.room ≡ 64) × Run (scene_by l.s l.xs l.tops l.table) (record { tally = l.initial.now; mem = l.initial.pairs }) (record { tally = l.now; mem = l.pairs }) (across l.home l.other) (across (drop l.i-index l.home) l.other)
