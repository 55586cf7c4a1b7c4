use Prim.Native.Nat.{◌+◌, ◌≤◌}
use Rattle.clumps_answer.specs.Clumps.{members_of}
use Rattle.lists.specs.Lists.{how_many}
use lib.Dec.{eqb}
use lib.ListN.{drop}
use mathlib.Core.Path.{◌≡◌}
use Rattle.clumps_answer.proofs.members.Given as goal

abbrev pub invariant-loop-label : goal.invariant-loop-label
invariant-loop-label l = (l.n ≤ l.label-index) × (l.n + how_many (λ m. eqb m l.low) (drop l.label-index l.labels) ≡ members_of l.labels l.low)
