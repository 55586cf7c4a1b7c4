-- The invariant: the forces that were passed are +0, the others as they came. Assumes nothing.
use Rattle.lists.specs.Loops.{part_at}
use Rattle.virial.proofs.Forces.{zero_at}
use mathlib.Core.Path.{◌≡◌}
use Rattle.virial.proofs.kernel.clear.Given as goal

abbrev pub invariant-loop-force : goal.invariant-loop-force
invariant-loop-force l = l.forces ≡ part_at zero_at l.force-index l.initial.forces
