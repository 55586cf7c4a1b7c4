-- The first refusal of two tests. Assumes nothing.
use Rattle.std.specs.Prelude.{Err, Ok, Result}
use mathlib.Core.Path.{◌≡◌}
use Rattle.answer.specs.declared.Refusal.{Refusal}
use Rattle.neighbor_asked.specs.Asked.{first_refusal}

module _ {d : Result (Unit {0}) Refusal} (e : Result (Unit {0}) Refusal) where
  pub then_refused : {r : Refusal} → d ≡ Err r → Err r ≡ first_refusal d e
  unfolding first_refusal
  then_refused q = rw q

  pub then_on : d ≡ Ok tt → e ≡ first_refusal d e
  unfolding first_refusal
  then_on q = rw q
