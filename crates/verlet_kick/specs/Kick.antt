-- The end of a step (verlet.rs, lines 187 to 195) after its evaluation. Definitions only.
use Rattle.std.specs.Prelude.{Err, Ok, Result}
use Rattle.answer.specs.declared.Refusal.{Refusal}
use Rattle.std.specs.Prelude.{true, false, List, Float}
use Rattle.virial.specs.declared.Units.{Units}
use Rattle.verlet.specs.Parts.{kicked_by}
use Rattle.verlet_kick.specs.declared.Kick.{Kick}

-- the answer and the velocities
pub record SecondKick : Type 0 where
  pub answer : Kick
  pub velocities : List Float

abbrev pub second_kick : Kick → List Float → SecondKick
second_kick r vs = record { answer = r; velocities = vs }

-- "A 7 or 8 inside a step, after the drift, leaves positions and velocities drifted, forces and potential old, and says so"
unfoldable pub second_kick_after : (potential energy : Float) → Units → (dt : Float) → (fs ms vs : List Float) → Result (Unit {0}) Refusal → SecondKick
second_kick_after potential energy units dt fs ms vs (Err r) = second_kick (record { stopped = true; potential = potential }) vs
second_kick_after potential energy units dt fs ms vs (Ok tt) = second_kick (record { stopped = false; potential = energy }) (kicked_by units dt fs ms vs)
