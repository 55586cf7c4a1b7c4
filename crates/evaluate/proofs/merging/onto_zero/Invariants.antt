use Prim.Native.Nat.{◌≤◌}
use Rattle.evaluate.proofs.Folding.{onto_zero}
use Rattle.lists.specs.Loops.{part_at}
use lib.ListN.{length}
use mathlib.Core.Path.{◌≡◌}
use Rattle.evaluate.proofs.merging.onto_zero.Given as goal

abbrev pub invariant-loop-force : goal.invariant-loop-force
invariant-loop-force l = l.forces ≡ part_at onto_zero l.force-index l.initial.forces
