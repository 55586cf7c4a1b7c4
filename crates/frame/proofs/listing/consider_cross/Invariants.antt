use Rattle.bins.proofs.Runs.{Run}
use Rattle.frame.specs.Steps.{scene_by}
use Rattle.lists.specs.Lists.{across}
use lib.ListN.{drop}
use Rattle.frame.proofs.listing.consider_cross.Given as goal

abbrev pub invariant-loop-i : goal.invariant-loop-i
invariant-loop-i l = Run (scene_by l.f l.xs l.table) (record { tally = l.initial.now; mem = l.initial.pairs }) (record { tally = l.now; mem = l.pairs }) (across l.home l.other) (across (drop l.i-index l.home) l.other)
