-- Each public call has one answer and leaves one memory: no second pair of these fits what the call says. Assumes nothing.
use Rattle.std.specs.Prelude.{Option, Result}
use Rattle.answer.specs.declared.Refusal.{Refusal}
use Rattle.cell.specs.declared.Lattice.{Lattice}
use Rattle.virial.specs.declared.Sum.{Sum}
use mathlib.Core.Path.{◌≡◌, sym, ap, ◌∙◌}
use mathlib.Core.List.{List}
use Prim.Native.Nat.{ℕ}
use lib.Ieee.{Float}
use Rattle.answer.proofs.Only.{seen_only}
use Rattle.potentials.specs.Calls.{Outcome}
use Rattle.potentials_angle.specs.declared.Angle.{Angle}
use Rattle.potentials_angle.specs.Calls.{UniformAnglesSays, AnglesAllSays}

pub uniform_angles_only : (k rest : Float) (r s : Result Angle Refusal) → UniformAnglesSays k rest r → UniformAnglesSays k rest s → r ≡ s
uniform_angles_only k rest r s p q = seen_only r s (p ∙ sym q)

pub angles_all_only : (r s : Result Sum Refusal) (m n xs forces : List Float) (cell : Option Lattice) (angle : Angle) (angles : List ℕ) (per : List Float)
    → AnglesAllSays angle cell angles per xs forces r m → AnglesAllSays angle cell angles per xs forces s n → (r ≡ s) × (m ≡ n)
angles_all_only r s m n xs forces cell angle angles per p q =
    (seen_only r s (ap (λ (x : Outcome). x.answer) (p ∙ sym q)), ap (λ (x : Outcome). x.forces) (p ∙ sym q))
