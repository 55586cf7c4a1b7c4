use Prim.Native.Nat.{◌+◌, ◌-◌}
use Rattle.bins.proofs.Runs.{Run}
use Rattle.frame.specs.Steps.{scene_by}
use Rattle.lists.specs.Lists.{with_each, numbers}
use Rattle.frame.proofs.listing.consider_above.Given as goal

abbrev pub invariant-loop-j : goal.invariant-loop-j
invariant-loop-j l = Run (scene_by l.f l.xs l.table) (record { tally = l.initial.now; mem = l.initial.pairs }) (record { tally = l.now; mem = l.pairs }) (with_each l.i (numbers (l.i + 1) (l.n - (l.i + 1)))) (with_each l.i (numbers l.j (l.n - l.j)))
