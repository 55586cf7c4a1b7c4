-- What the kernel and the private functions say of themselves: nobody has to believe it. Definitions only.
use Rattle.std.specs.Prelude.{Err, Result}
use Rattle.std.specs.Prelude.{ℕ, ◌≡◌, Bool, false, List, Float}
use Rattle.answer.specs.declared.Refusal.{Refusal}
use Rattle.virial.specs.declared.Units.{Units}
use Rattle.verlet_kick.specs.Kick.{second_kick_after}
use Rattle.neighbor.specs.declared.State.{State}
use Rattle.evaluate.specs.declared.Evaluated.{Evaluated}
use Rattle.evaluate.specs.Steps.{settled_in}
use Rattle.verlet_step.specs.declared.Stepped.{Stepped}
use Rattle.verlet_step.specs.Calls.{Motion, Outcome, landed_by, advanced_by, shown}

-- the kernel's evaluation looks species up by halving, in a scratch; after the tests it is settledOf
abbrev pub landed_in : Motion → Outcome
landed_in m = landed_by settled_in m

abbrev pub advanced_in : Motion → Outcome
advanced_in m = advanced_by settled_in m

-- what `land` and `advance` answer, and what everything lent holds at exit
abbrev pub LandSays : Motion → Stepped → (velocities : List Float) → (pairs : List ℕ) → (references : List Float) → (starts items : List ℕ) → (forces : List Float) → Type 0
LandSays m r velocities pairs references starts items forces = shown r m.job.given.positions velocities pairs references starts items forces ≡ landed_in m

abbrev pub AdvanceSays : Motion → Stepped → (positions velocities : List Float) → (pairs : List ℕ) → (references : List Float) → (starts items : List ℕ) → (forces : List Float) → Type 0
AdvanceSays m r positions velocities pairs references starts items forces = shown r positions velocities pairs references starts items forces ≡ advanced_in m

abbrev pub unmoved_of : State → (potential : Float) → Refusal → Stepped
unmoved_of s potential why = record { done = Err why; stopped = false; rebuilt = false; state = s; potential = potential }

abbrev pub stepped_from : Evaluated → (stopped : Bool) → (potential : Float) → Stepped
stepped_from e stopped potential = record { done = e.done; stopped = stopped; rebuilt = e.rebuilt; state = e.state; potential = potential }

-- the answer and the velocities after an evaluation
pub record Kicked : Type 0 where
  pub answer : Stepped
  pub velocities : List Float

abbrev pub kicked : Stepped → List Float → Kicked
kicked r vs = record { answer = r; velocities = vs }

unfoldable pub kicked_after : (potential : Float) → Units → (dt : Float) → (fs ms vs : List Float) → Evaluated → Result (Unit {0}) Refusal → Kicked
kicked_after potential units dt fs ms vs e d =
    let k = second_kick_after potential e.sum.energy units dt fs ms vs d in
    kicked (stepped_from e k.answer.stopped k.answer.potential) k.velocities
