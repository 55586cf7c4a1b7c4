-- What the largest magnitude of a list does not pass, none of its floats passes: the order of floats under `max_of`. Assumes nothing.
use Prim.Native.Nat.{ℕ, zero, suc, ◌+◌, ◌*◌, ◌≤◌, ◌<◌}
use native.Mathlib.Nat.{le_of_eq, lt_of_lt_of_le, lt_of_le_of_lt, le_trans, mul-pos, zero-mul, zero-lt-suc, mul_right_comm, mul-le-mul_right, mul-lt-mul_of_pos_right, lt_of_mul-lt-mul_right, eq-or-lt_of_le, le_of_suc-le-suc}
use native.Mathlib.Omega.{arith}
use mathlib.Core.Logic.{inl, inr}
use mathlib.Core.Path.{◌≡◌, refl, sym, ◌∙◌, subst}
use mathlib.Core.Bool.{Bool, true, false, cond, false≢true, true≢false}
use mathlib.Core.List.{List}
use borrow.Author.Tests.{ltb-true, ltb-false, lt-ltb}
use lib.Ieee.{Float, nan, inf, fin, up, down, lt, le, is_nan, of_bits}
use lib.Ieee.Fits.{down_pos}
use Rattle.lists.specs.Loops.{fold_up_to}
use Rattle.float.specs.Arith.{at}
use Rattle.float.specs.Def.{abs_of, max_of, negative}
use Rattle.float.specs.Literals.{f0}
use Rattle.cell.proofs.Order.{lt_not_gt, lt_not_ge}
use Rattle.cell.proofs.Ways.{Up}
use Rattle.fire.specs.Steer.{larger_at}

-- ---- fractions: x / p below y / q, and this not above z / r
fraction_below : (x p y q z r : ℕ) → 0 < q → 0 < r → x * q < y * p → y * r ≤ z * q → x * r < z * p
fraction_below x p y q z r Q R h k =
    lt_of_mul-lt-mul_right q
    (lt_of_le_of_lt (le_of_eq (mul_right_comm x r q))
    (lt_of_lt_of_le (mul-lt-mul_of_pos_right h R)
    (le_trans (le_of_eq (mul_right_comm y p r)) (le_trans (mul-le-mul_right p k) (le_of_eq (mul_right_comm z q p))))))

-- the first of them negative, or a zero
signed_below : (x p y q z r : ℕ) → 0 < p → 0 < r → 0 < x * q + y * p → y * r ≤ z * q → 0 < x * r + z * p
signed_below (suc x) p y q z r P R h k = omega (arith, mul-pos (zero-lt-suc x) R)
signed_below zero p y q (suc z) r P R h k = omega (arith, mul-pos (zero-lt-suc z) P)
signed_below zero p (suc y) q zero r P R h k = absurd (omega (arith, mul-pos (zero-lt-suc y) R, zero-mul q))
signed_below zero p zero q zero r P R h k = absurd (omega (arith, zero-mul q, zero-mul p))

-- ---- floats that are not negative: t below y, and y not above z
through : (y z t : Float) → Up y → Up z → lt t y ≡ true → lt z y ≡ false → lt t z ≡ true
unfolding lt
through nan z t a b h k = absurd a
through (inf true) z t a b h k = absurd a
through (fin true n d) z t a b h k = absurd a
through (inf false) nan t a b h k = absurd b
through (inf false) (inf true) t a b h k = absurd b
through (inf false) (inf false) t a b h k = h
through (inf false) (fin s l g) t a b h k = absurd (true≢false k)
through (fin false n d) nan t a b h k = absurd b
through (fin false n d) (inf true) t a b h k = absurd b
through (fin false n d) (inf false) nan a b h k = absurd (false≢true h)
through (fin false n d) (inf false) (inf true) a b h k = refl
through (fin false n d) (inf false) (inf false) a b h k = absurd (false≢true h)
through (fin false n d) (inf false) (fin s m e) a b h k = refl
through (fin false n d) (fin true l g) t a b h k = absurd b
through (fin false n d) (fin false l g) nan a b h k = absurd (false≢true h)
through (fin false n d) (fin false l g) (inf s) a b h k = h
through (fin false n d) (fin false l g) (fin false m e) a b h k =
    lt-ltb (m * up e * down g) (l * up g * down e)
    (fraction_below (m * up e) (down e) (n * up d) (down d) (l * up g) (down g) (down_pos d) (down_pos g) (ltb-true (m * up e * down d) (n * up d * down e) h) (ltb-false (l * up g * down d) (n * up d * down g) k))
through (fin false n d) (fin false l g) (fin true m e) a b h k =
    lt-ltb 0 (m * up e * down g + l * up g * down e)
    (signed_below (m * up e) (down e) (n * up d) (down d) (l * up g) (down g) (down_pos e) (down_pos g) (ltb-true 0 (m * up e * down d + n * up d * down e) h) (ltb-false (l * up g * down d) (n * up d * down g) k))

-- ---- what the larger of two does not pass
unless : (b : Bool) → (b ≡ true → ⊥) → b ≡ false
unless true n = absurd (n refl)
unless false n = refl

abbrev Neither : (t x y : Float) → Type 0
Neither t x y = (lt t x ≡ false) × (lt t y ≡ false)

nothing_below : (t : Float) → lt t nan ≡ false
unfolding lt
nothing_below nan = refl
nothing_below (inf s) = refl
nothing_below (fin s m e) = refl

module _ (t x y : Float) (a : Up x) (b : Up y) where
  under_right : lt x y ≡ true → lt t y ≡ false → Neither t x y
  under_right e h = (unless (lt t x) (λ (g : lt t x ≡ true). true≢false (sym (through x y t a b g (lt_not_gt x y e)) ∙ h)), h)

  under_left : lt x y ≡ false → lt t x ≡ false → Neither t x y
  under_left e h = (h, unless (lt t y) (λ (g : lt t y ≡ true). true≢false (sym (through y x t b a g e) ∙ h)))

  under_both : (p q : Bool) → lt x y ≡ p → lt t (cond p y (cond q x x)) ≡ false → Neither t x y
  under_both true q e h = under_right e h
  under_both false true e h = under_left e h
  under_both false false e h = under_left e h

max_within : (t m v : Float) → Up m → lt t (max_of m (abs_of v)) ≡ false → Neither t m (abs_of v)
unfolding max_of abs_of is_nan negative
max_within t nan v u h = absurd u
max_within t (inf true) v u h = absurd u
max_within t (fin true n d) v u h = absurd u
max_within t (inf false) nan u h = (h, nothing_below t)
max_within t (fin false n d) nan u h = (h, nothing_below t)
max_within t (inf false) (inf s) u h = under_both t (inf false) (inf false) tt tt (lt (inf false) (inf false)) (lt (inf false) (inf false)) refl h
max_within t (inf false) (fin s k e) u h = under_both t (inf false) (fin false k e) tt tt (lt (inf false) (fin false k e)) (lt (fin false k e) (inf false)) refl h
max_within t (fin false n d) (inf s) u h = under_both t (fin false n d) (inf false) tt tt (lt (fin false n d) (inf false)) (lt (inf false) (fin false n d)) refl h
max_within t (fin false n d) (fin s k e) u h =
    under_both t (fin false n d) (fin false k e) tt tt (lt (fin false n d) (fin false k e)) (lt (fin false k e) (fin false n d)) refl h

-- ---- and it is such a number again
up_either : (p q : Bool) (x y : Float) → Up x → Up y → Up (cond p y (cond q x x))
up_either true q x y a b = b
up_either false true x y a b = a
up_either false false x y a b = a

up_max : (m v : Float) → Up m → Up (max_of m (abs_of v))
unfolding max_of abs_of is_nan negative
up_max nan v u = absurd u
up_max (inf true) v u = absurd u
up_max (fin true n d) v u = absurd u
up_max (inf false) nan u = tt
up_max (fin false n d) nan u = tt
up_max (inf false) (inf s) u = up_either (lt (inf false) (inf false)) (lt (inf false) (inf false)) (inf false) (inf false) tt tt
up_max (inf false) (fin s k e) u = up_either (lt (inf false) (fin false k e)) (lt (fin false k e) (inf false)) (inf false) (fin false k e) tt tt
up_max (fin false n d) (inf s) u = up_either (lt (fin false n d) (inf false)) (lt (inf false) (fin false n d)) (fin false n d) (inf false) tt tt
up_max (fin false n d) (fin s k e) u = up_either (lt (fin false n d) (fin false k e)) (lt (fin false k e) (fin false n d)) (fin false n d) (fin false k e) tt tt

-- ---- the fold
module _ (fs : List Float) where
  up_largest : (n : ℕ) → Up (fold_up_to (larger_at fs) n f0)
  unfolding fold_up_to
  up_largest zero = unfold of_bits in tt
  up_largest (suc n) = up_max (fold_up_to (larger_at fs) n f0) (at fs n) (up_largest n)

  within_largest : (t : Float) (n : ℕ) → lt t (fold_up_to (larger_at fs) n f0) ≡ false → (k : ℕ) → k < n → lt t (abs_of (at fs k)) ≡ false
  unfolding fold_up_to
  within_largest t zero h k l = absurd (omega arith)
  within_largest t (suc n) h k l =
      let both = max_within t (fold_up_to (larger_at fs) n f0) (at fs n) (up_largest n) h in
      elim (eq-or-lt_of_le (le_of_suc-le-suc l)) [
        | inl e ↦ subst (λ (j : ℕ). lt t (abs_of (at fs j)) ≡ false) (sym e) both.1
        | inr less ↦ within_largest t n both.0 k less
      ]

  -- where the largest is at most t, no magnitude passes t
  pub none_past : (t : Float) (n : ℕ) → le (fold_up_to (larger_at fs) n f0) t ≡ true → (k : ℕ) → k < n → lt t (abs_of (at fs k)) ≡ false
  none_past t n h =
      within_largest t n
      (unless (lt t (fold_up_to (larger_at fs) n f0)) (λ (g : lt t (fold_up_to (larger_at fs) n f0) ≡ true). true≢false (sym h ∙ lt_not_ge t (fold_up_to (larger_at fs) n f0) g)))
