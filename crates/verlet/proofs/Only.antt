-- Each public call has one answer and leaves one memory: no second pair of these fits what the call says. Assumes nothing.
use Rattle.std.specs.Prelude.{Result}
use Rattle.answer.specs.declared.Refusal.{Refusal}
use mathlib.Core.Path.{◌≡◌, sym, ap, ◌∙◌}
use mathlib.Core.List.{List}
use lib.Ieee.{Float}
use Rattle.answer.proofs.Only.{seen_only}
use Rattle.answer.specs.Seen.{Seen}
use Rattle.virial.specs.declared.Units.{Units}
use Rattle.verlet.specs.Calls.{KineticEnergySays, TemperatureSays, BerendsenSays}

module _ (units : Units) (vs ms : List Float) where
  module _ (r s : Result Float Refusal) where
    pub kinetic_energy_only : KineticEnergySays units vs ms r → KineticEnergySays units vs ms s → r ≡ s
    kinetic_energy_only p q = seen_only r s (p ∙ sym q)

    pub temperature_only : (dof : Float) → TemperatureSays units dof vs ms r → TemperatureSays units dof vs ms s → r ≡ s
    temperature_only dof p q = seen_only r s (p ∙ sym q)

  module _ (dt target tau : Float) (r s : Result (Unit {0}) Refusal) (m n : List Float) where
    pub berendsen_only : BerendsenSays units dt target tau ms vs r m → BerendsenSays units dt target tau ms vs s n → (r ≡ s) × (m ≡ n)
    berendsen_only p q =
        (seen_only r s (ap (λ (x : Seen (Unit {0}) × List Float). x.0) (p ∙ sym q)), ap (λ (x : Seen (Unit {0}) × List Float). x.1) (p ∙ sym q))
