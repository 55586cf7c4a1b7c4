use Prim.Native.Nat.{◌≤◌}
use Rattle.bins.proofs.Runs.{Run}
use Rattle.lists.specs.Lists.{inside}
use Rattle.neighbor_listing.specs.Steps.{scene_by}
use lib.ListN.{length, drop}
use mathlib.Core.Path.{◌≡◌}
use Rattle.neighbor_listing.proofs.loops.home_side.Given as goal

abbrev pub invariant-loop-k : goal.invariant-loop-k
invariant-loop-k l = (l.k ≤ length l.home) × (length l.pairs ≡ length l.initial.pairs) × (length l.flags ≡ 64) × (length l.room ≡ 64) × Run (scene_by l.s l.xs l.tops l.table) (record { tally = l.initial.now; mem = l.initial.pairs }) (record { tally = l.now; mem = l.pairs }) (inside l.home) (inside (drop l.k l.home))
