use Rattle.bins.proofs.Runs.{Run}
use Rattle.frame.specs.Steps.{scene_by}
use Rattle.lists.specs.Lists.{inside}
use lib.ListN.{drop}
use Rattle.frame.proofs.listing.consider_home.Given as goal

abbrev pub invariant-loop-k : goal.invariant-loop-k
invariant-loop-k l = Run (scene_by l.f l.xs l.table) (record { tally = l.initial.now; mem = l.initial.pairs }) (record { tally = l.now; mem = l.pairs }) (inside l.home) (inside (drop l.k l.home))
