-- Two cases of numbers and of Bools, and what Bool's connectives say. Assumes nothing.
use mathlib.Core.Path.{◌≡◌, refl, sym}
use mathlib.Core.Logic.{◌⊎◌, inl, inr}
use mathlib.Core.Bool.{Bool, true, false, ◌&&◌, ◌||◌, false≢true}
use Prim.Native.Nat.{ℕ, suc, ◌≤◌, ◌<◌}
use native.Mathlib.Omega.{arith}
use lib.Dec.{eqb, ltb}
use borrow.Author.Tests.{ltb-true, ltb-false, eqb-true, eqb-false}

-- two numbers that differ are not equal: `impossible (cc)` closes a case whose facts contradict each other
pub impossible : {A : Type 0} → ◌≡◌ {A = ℕ} 0 1 → A
impossible e = absurd (omega arith)

-- a test's two cases
pub by_test : (P : Bool → Type 0) (b : Bool) → (b ≡ true → P true) → (b ≡ false → P false) → P b
by_test P true f g = f refl
by_test P false f g = g refl

pub true_or_false : (b : Bool) → (b ≡ true) ⊎ (b ≡ false)
true_or_false true = inl refl
true_or_false false = inr refl

pub below_or : (a b : ℕ) → (a < b) ⊎ (b ≤ a)
below_or a b = by_test (λ t. (a < b) ⊎ (b ≤ a)) (ltb a b) (λ e. inl (ltb-true a b e)) (λ e. inr (ltb-false a b e))

pub same_or : (a b : ℕ) → (a ≡ b) ⊎ (a ≡ b → ⊥)
same_or a b = by_test (λ t. (a ≡ b) ⊎ (a ≡ b → ⊥)) (eqb a b) (λ e. inl (eqb-true a b e)) (λ e. inr (eqb-false a b e))

pub below_or_is : (k n : ℕ) → k < suc n → (k < n) ⊎ (k ≡ n)
below_or_is k n h = by_test (λ t. (k < n) ⊎ (k ≡ n)) (ltb k n) (λ e. inl (ltb-true k n e)) (λ e. inr (omega (arith, ltb-false k n e)))

-- ---- Bool's connectives
pub or_cases : (s t : Bool) → s || t ≡ true → (s ≡ true) ⊎ (t ≡ true)
or_cases true t e = inl refl
or_cases false t e = inr e

pub or_left : (s t : Bool) → s ≡ true → s || t ≡ true
or_left s t e = rw e refl

pub or_right : (s t : Bool) → t ≡ true → s || t ≡ true
or_right true t e = refl
or_right false t e = e

pub or_neither : (s t : Bool) → s || t ≡ false → (s ≡ false) × (t ≡ false)
or_neither true t e = absurd (false≢true (sym e))
or_neither false t e = (refl, e)

pub neither_or : (s t : Bool) → s ≡ false → t ≡ false → s || t ≡ false
neither_or s t e f = rw e f

pub and_both : (s t : Bool) → s && t ≡ true → (s ≡ true) × (t ≡ true)
and_both true t e = (refl, e)
and_both false t e = absurd (false≢true e)

pub both_and : (s t : Bool) → s ≡ true → t ≡ true → s && t ≡ true
both_and s t e f = rw e f
