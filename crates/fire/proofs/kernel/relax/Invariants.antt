use Prim.Native.Nat.{◌-◌}
use Rattle.evaluate.specs.Steps.{settled_in}
use Rattle.fire.proofs.Turns.{Going}
use Rattle.fire.specs.Steps.{relaxing_of}
use Rattle.verlet_step.specs.Calls.{motion_on}
use lib.ListN.{length}
use mathlib.Core.Path.{◌≡◌}
use Rattle.fire.proofs.kernel.relax.Given as goal

abbrev pub invariant-loop-t : goal.invariant-loop-t
invariant-loop-t l = (length l.positions ≡ length l.initial.positions) × (length l.velocities ≡ length l.initial.velocities) × (length l.pairs ≡ length l.initial.pairs) × (length l.references ≡ length l.initial.references) × (length l.starts ≡ length l.initial.starts) × (length l.items ≡ length l.initial.items) × (length l.forces ≡ length l.initial.forces) × Going settled_in l.most (motion_on l.setting l.initial.t.gait.dt l.initial.t.last.state l.initial.t.last.potential l.molecule l.masses l.exclusions l.initial.positions l.initial.velocities l.initial.pairs l.initial.references l.initial.starts l.initial.items l.initial.forces) l.tol l.limit (relaxing_of l.initial.t l.initial.positions l.initial.velocities l.initial.pairs l.initial.references l.initial.starts l.initial.items l.initial.forces) (relaxing_of l.t l.positions l.velocities l.pairs l.references l.starts l.items l.forces)

abbrev pub decreases-loop-t : goal.decreases-loop-t
decreases-loop-t l = l.limit - l.t.iteration
