use Prim.Native.Nat.{◌-◌}
use Rattle.bins.proofs.Runs.{Run}
use Rattle.frame.specs.Steps.{scene_by}
use Rattle.lists.specs.Lists.{all_pairs, inside, numbers}
use Rattle.frame.proofs.listing.consider_all.Given as goal

abbrev pub invariant-loop-i : goal.invariant-loop-i
invariant-loop-i l = Run (scene_by l.f l.xs l.table) (record { tally = l.initial.now; mem = l.initial.pairs }) (record { tally = l.now; mem = l.pairs }) (all_pairs l.n) (inside (numbers l.i (l.n - l.i)))
