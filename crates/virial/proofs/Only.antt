-- Each public call has one answer and leaves one memory: no second pair of these fits what the call says. Assumes nothing.
use Rattle.std.specs.Prelude.{Err, None, Ok, Result, Some}
use Rattle.answer.specs.declared.Refusal.{Refusal}
use mathlib.Core.Path.{◌≡◌, refl, sym, ap, ap₂, ◌∙◌}
use mathlib.Core.List.{List}
use Prim.Native.Nat.{ℕ}
use lib.Ieee.{Float}
use Rattle.answer.proofs.Only.{made, seen_only, told_back}
use Rattle.answer.specs.Seen.{Seen, seen}
use Rattle.cell.specs.declared.Rows.{Rows}
use Rattle.cell.specs.declared.Vec3.{Vec3}
use Rattle.virial.specs.declared.Sum.{Sum}
use Rattle.virial.specs.declared.Units.{Units}
use Rattle.virial.specs.Calls.{ZerosSays, MergeSays, AddPairForceSays, VirialFromPairSays, ScalarVirialSays, PressureSays, PressureTensorSays, ToGpaSays}

-- what is seen and what is left, as one pair, tell both
module _ (r s : Result Sum Refusal) (m n : List Float) (o : Seen Sum × List Float) where
  both : ◌≡◌ {A = Seen Sum × List Float} (seen r, m) o → ◌≡◌ {A = Seen Sum × List Float} (seen s, n) o → (r ≡ s) × (m ≡ n)
  both p q = (seen_only r s (ap (λ (x : Seen Sum × List Float). x.0) (p ∙ sym q)), ap (λ (x : Seen Sum × List Float). x.1) (p ∙ sym q))

module _ (forces : List Float) (r s : Result Sum Refusal) (m n : List Float) where
  pub zeros_only : ZerosSays forces r m → ZerosSays forces s n → (r ≡ s) × (m ≡ n)
  zeros_only = both r s m n _

  module _ (sum other : Sum) (added : List Float) where
    pub merge_only : MergeSays sum forces other added r m → MergeSays sum forces other added s n → (r ≡ s) × (m ≡ n)
    merge_only = both r s m n _

  module _ (sum : Sum) (i j : ℕ) (d f : Vec3) where
    pub add_pair_force_only : AddPairForceSays sum forces i j d f r m → AddPairForceSays sum forces i j d f s n → (r ≡ s) × (m ≡ n)
    add_pair_force_only = both r s m n _

module _ (virial : List (List Float)) (r s : Result Rows Refusal) where
  pub virial_from_pair_only : (d f : Vec3) → VirialFromPairSays virial d f r → VirialFromPairSays virial d f s → r ≡ s
  virial_from_pair_only d f p q = seen_only r s (p ∙ sym q)

  pub pressure_tensor_only :
      (units : Units) (volume : Float) (vs ms : List Float)
      → PressureTensorSays units volume virial vs ms r → PressureTensorSays units volume virial vs ms s → r ≡ s
  pressure_tensor_only units volume vs ms p q = seen_only r s (p ∙ sym q)

module _ (r s : Result Float Refusal) where
  pub scalar_virial_only : (virial : List (List Float)) → ScalarVirialSays virial r → ScalarVirialSays virial s → r ≡ s
  scalar_virial_only virial p q = seen_only r s (p ∙ sym q)

  pub pressure_only : (kinetic scalar volume : Float) → PressureSays kinetic scalar volume r → PressureSays kinetic scalar volume s → r ≡ s
  pressure_only kinetic scalar volume p q = seen_only r s (p ∙ sym q)

  pub to_gpa_only : (units : Units) (pressure : Float) → ToGpaSays units pressure r → ToGpaSays units pressure s → r ≡ s
  to_gpa_only units pressure p q = seen_only r s (p ∙ sym q)
