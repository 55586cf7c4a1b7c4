use Rattle.bins.proofs.Runs.{Run}
use Rattle.bins.specs.Listing.{Below}
use Rattle.neighbor_listing.specs.Steps.{scene_by}
use Rattle.lists.specs.Lists.{with_each}
use Rattle.std.proofs.Common.{◌/◌}
use Rattle.std.specs.Slice.Iter.{chunks_rest, chunks_size}
use lib.ListN.{length}
use mathlib.Core.Path.{◌≡◌}
use Rattle.neighbor_listing.proofs.loops.consider_part.Given as goal

abbrev pub invariant-loop-few : goal.invariant-loop-few
invariant-loop-few l = (chunks_size l.few-iterator ≡ 32) × Below (length l.xs / 3) (chunks_rest l.few-iterator) × (length l.pairs ≡ length l.initial.pairs) × Run (scene_by l.s l.xs l.tops l.table) (record { tally = l.initial.now; mem = l.initial.pairs }) (record { tally = l.now; mem = l.pairs }) (with_each l.i l.part) (with_each l.i (chunks_rest l.few-iterator))
