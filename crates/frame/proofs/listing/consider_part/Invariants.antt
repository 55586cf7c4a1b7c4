use Rattle.bins.proofs.Runs.{Run}
use Rattle.frame.specs.Steps.{scene_by}
use Rattle.lists.specs.Lists.{with_each}
use lib.ListN.{drop}
use Rattle.frame.proofs.listing.consider_part.Given as goal

abbrev pub invariant-loop-j : goal.invariant-loop-j
invariant-loop-j l = Run (scene_by l.f l.xs l.table) (record { tally = l.initial.now; mem = l.initial.pairs }) (record { tally = l.now; mem = l.pairs }) (with_each l.i l.part) (with_each l.i (drop l.j-index l.part))
