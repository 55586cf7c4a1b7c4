use Prim.Native.Nat.{◌≤◌, ◌/◌}
use Rattle.clumps_label.specs.Label.{linked}
use Rattle.clumps_label.specs.Steps.{Moved}
use Rattle.lists.specs.Lists.{rows}
use lib.ListN.{length, take}
use mathlib.Core.List.{foldl}
use Rattle.clumps_label.proofs.forest.link_all.Given as goal

abbrev pub invariant-loop-k : goal.invariant-loop-k
invariant-loop-k l = (l.k ≤ length l.pairs / 2) × Moved (λ f. foldl linked f (take l.k (rows l.pairs))) l.initial.p l.p
