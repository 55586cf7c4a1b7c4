-- What an answer shows of the tests before it. Assumes nothing.
use Rattle.std.specs.Prelude.{Err, Ok, Result}
use Rattle.std.specs.Result.{IsErrAnd}
use Rattle.std.proofs.lemmas.Result.{err_from_is_err_and}
use mathlib.Core.Path.{◌≡◌, refl, ap, ◌∙◌}
use mathlib.Core.Bool.{Bool, true, false, cond}
use Prim.Native.Nat.{ℕ}
use native.Mathlib.Omega.{arith}
use Rattle.answer.specs.declared.Refusal.{Refusal}

-- a test that was passed
pub pass : (t : Bool) (r : Refusal) (rest : Result (Unit {0}) Refusal) → cond t (Err r) rest ≡ Ok tt → (t ≡ false) × (rest ≡ Ok tt)
pass true r rest q = let z : ◌≡◌ {A = ℕ} 0 1 = cc in absurd (omega arith)
pass false r rest q = (refl, q)

-- what `?` passes up of the same error type
pub passed_up : {A E : Type 0} (r : Result A E) (e : E) → IsErrAnd r (λ y. y ≡ e) → r ≡ Err e
passed_up r e h = let z = err_from_is_err_and {Q = λ y. y ≡ e} r h in z.1 ∙ ap Err z.2
