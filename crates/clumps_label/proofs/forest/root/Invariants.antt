use Rattle.clumps_label.specs.Steps.{Climbed}
use lib.ListN.{get_or}
use mathlib.Core.Path.{◌≡◌}
use Rattle.clumps_label.proofs.forest.root.Given as goal

abbrev pub invariant-loop-up : goal.invariant-loop-up
invariant-loop-up l = Climbed l.initial.p l.i l.at l.p × (l.up ≡ get_or l.p l.at 0)

abbrev pub decreases-loop-up : goal.decreases-loop-up
decreases-loop-up l = l.at
