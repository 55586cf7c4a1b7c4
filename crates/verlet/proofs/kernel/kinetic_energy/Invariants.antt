-- The invariant: ke is the energy of the first i atoms. Assumes nothing.
use Prim.Native.Nat.{◌≤◌, ◌-◌, ◌/◌, min}
use Rattle.float.specs.Literals.{f0}
use Rattle.float.specs.Arith.{◌⊕◌, at}
use Rattle.lists.specs.Loops.{fold_up_to}
use Rattle.verlet.specs.Verlet.{kinetic_at}
use Rattle.virial.specs.Virial.{velocity_at}
use lib.ListN.{length}
use mathlib.Core.Path.{◌≡◌}
use Rattle.verlet.proofs.kernel.kinetic_energy.Given as goal

abbrev pub invariant-loop-i : goal.invariant-loop-i
invariant-loop-i l = (l.i ≤ l.n) × (l.n ≡ min (length l.vs / 3) (length l.ms)) × (l.ke ≡ fold_up_to (λ k e. e ⊕ kinetic_at l.accel (at l.ms k) (velocity_at l.vs k)) l.i f0)
