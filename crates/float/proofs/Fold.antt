-- A finite number folded by `rem_euclid` with 1 lies from 0 to 1, 1 included: a tiny negative number folds to 1. Assumes nothing.
use Rattle.std.proofs.Common.{◌≡◌, ℕ, zero, suc, ◌-◌, ◌*◌, ◌%◌, ◌<◌, ◌≤◌, Bool, true, false, cond, T, ltb, ◌⊎◌, ℤ, pos, sym, refl, ap, ◌∙◌, subst, inl, inr, true≢false, le_of_lt, lt_irrefl, mod-lt, zero-lt-suc, mul_comm, eq-zero-or-pos, lt_of_mul-lt-mul_right, mul-lt-mul_of_pos_right, mul-pos, one-mul, zero-mul, mul-one, arith, ltb→lt, lt→ltb}
use lib.Dec.{not_T}
use lib.Ieee.{Float, nan, inf, fin, binary64, up, down, neg, add, sum, rem, lt, le, fits, round}
use lib.Ieee.Bits.{is_true, is_false}
use lib.Ieee.Fits.{down_pos}
use lib.Ieee.Exact.{HasValue}
use lib.Ieee.Order.{round_mono}
use Rattle.float.specs.Theorems.{InUnit}
use Rattle.float.specs.Def.{abs_of, rem_euclid_of}
use Rattle.float.proofs.Unique.{round_own}
use Rattle.float.proofs.Branches.{zero+, sign_fits}
use Rattle.float.proofs.Fraction.{lt_at, round_neg}
use Rattle.float.proofs.Whole.{one+, frac_val, neg_below}

round_ends : (round binary64 false 0 1 ≡ zero+) × (round binary64 false 1 1 ≡ one+)
unfolding round
round_ends = (refl, refl)

unit : (a c : ℕ) → 0 < c → a ≤ c → InUnit (round binary64 false a c)
unit a c C h = (
  subst (λ (z : Float). T (le z (round binary64 false a c))) round_ends.0 (round_mono binary64 0 1 a c (zero-lt-suc 0) C (low a c)),
  subst (λ (z : Float). T (le (round binary64 false a c) z)) round_ends.1 (round_mono binary64 a c 1 1 C (zero-lt-suc 0) (high a c h)),
)
  where
    low : (a c : ℕ) → 0 * c ≤ a * 1
    low a c = omega arith

    high : (a c : ℕ) → a ≤ c → a * 1 ≤ 1 * c
    high a c h = omega arith

rem_one : (s : Bool) (m : ℕ) (e : ℤ) → rem binary64 (fin s m e) one+ ≡ round binary64 s (m * up e * 1 % (1 * 1 * down e)) (down e * 1)
unfolding rem
rem_one s m e = refl

rem_is : (s : Bool) (m : ℕ) (e : ℤ) → rem binary64 (fin s m e) one+ ≡ round binary64 s (m * up e % down e) (down e)
rem_is s m e =
    rem_one s m e
    ∙ ap (λ (z : ℕ). round binary64 s (z % (1 * 1 * down e)) (down e * 1)) (mul-one (m * up e))
    ∙ ap (λ (z : ℕ). round binary64 s (m * up e % z) (down e * 1)) (one-mul (down e))
    ∙ ap (λ (z : ℕ). round binary64 s (m * up e % down e) z) (mul-one (down e))

-- the definition, by its remainder r
fold_by : Float → Float
fold_by r = cond (lt r zero+) (add binary64 r one+) r

fold_is : (x r : Float) → rem binary64 x one+ ≡ r → rem_euclid_of x one+ ≡ fold_by r
unfolding rem_euclid_of abs_of fold_by
fold_is x r h = ap (λ (z : Float). cond (lt z zero+) (add binary64 z one+) z) h

-- a remainder that is not negative
fold_pos : (r : Float) (a c : ℕ) → 0 < c → HasValue r false a c → fold_by r ≡ r
unfolding fold_by
fold_pos r a c C v = rw (lt_at r zero+ a c 0 1 C (zero-lt-suc 0) v (refl, refl) ∙ is_false (ltb (a * 1) (0 * c)) (not_T (ltb (a * 1) (0 * c)) (λ t. none (a * 1) (0 * c) (zero-mul c) (ltb→lt (a * 1) (0 * c) t))))
  where
    none : (a b : ℕ) → b ≡ 0 → a < b → ⊥
    none a b e h = omega arith

-- -0 stays
fold_zero : InUnit (fold_by (fin true 0 (pos 0)))
unfolding fold_by lt le
fold_zero = (tt, tt)

-- a negative remainder above -1
add_one : (m : ℕ) (e : ℤ) → m * up e < down e → add binary64 (fin true m e) one+ ≡ round binary64 false (1 * 1 * down e - m * up e * 1) (down e * 1)
unfolding add sum
add_one m e h = rw (is_true (ltb (m * up e * 1) (1 * 1 * down e)) (lt→ltb (m * up e * 1) (1 * 1 * down e) (same (m * up e) (down e) h)))
  where
    same : (a b : ℕ) → a < b → a * 1 < 1 * 1 * b
    same a b h = omega arith

fold_neg : (q : Float) (a c : ℕ) → 0 < a → a < c → HasValue q false a c → InUnit (fold_by (neg q))
unfolding fold_by neg
fold_neg nan a c A h v = absurd v
fold_neg (inf s) a c A h v = absurd v
fold_neg (fin true m e) a c A h v = absurd (true≢false v.0)
fold_neg (fin false zero e) a c A h v =
    absurd (lt_irrefl 0 (subst (λ (z : ℕ). 0 < z) (sym v.1 ∙ ap (λ (z : ℕ). z * c) (zero-mul (up e)) ∙ zero-mul c) (mul-pos A (down_pos e))))
fold_neg (fin false (suc m) e) a c A h v =
    let below : suc m * up e < down e = lt_of_mul-lt-mul_right c (subst (λ (z : ℕ). z < down e * c) (sym v.1) (subst (λ (z : ℕ). a * down e < z) (mul_comm c (down e)) (mul-lt-mul_of_pos_right h (down_pos e)))) in
    subst InUnit (sym (ap (λ (b : Bool). cond b (add binary64 (fin true (suc m) e) one+) (fin true (suc m) e)) (neg_below m e) ∙ add_one (suc m) e below))
    (unit (1 * 1 * down e - suc m * up e * 1) (down e * 1) (mul-pos (down_pos e) (zero-lt-suc 0)) (less (suc m * up e * 1) (down e)))
  where
    less : (a d : ℕ) → 1 * 1 * d - a ≤ d * 1
    less a d = omega arith

zero_fits : T (fits binary64 (fin true 0 (pos 0)))
unfolding fits
zero_fits = tt

pub fold_in_unit : (s : Bool) (m : ℕ) (e : ℤ) → T (fits binary64 (fin s m e)) → InUnit (rem_euclid_of (fin s m e) one+)
fold_in_unit false m e p =
    let a = m * up e % down e in
    let v = frac_val m e p in
    subst InUnit (sym (fold_is (fin false m e) (round binary64 false a (down e)) (rem_is false m e) ∙ fold_pos (round binary64 false a (down e)) a (down e) (down_pos e) v))
    (unit a (down e) (down_pos e) (le_of_lt (mod-lt (m * up e) (down_pos e))))
fold_in_unit true m e p = go (m * up e % down e) refl (eq-zero-or-pos (m * up e % down e))
  where
    go : (a : ℕ) → m * up e % down e ≡ a → (a ≡ 0) ⊎ (0 < a) → InUnit (rem_euclid_of (fin true m e) one+)
    go a h (inl z) =
        subst InUnit
        (sym (fold_is (fin true m e) (fin true 0 (pos 0)) (rem_is true m e ∙ ap (λ (n : ℕ). round binary64 true n (down e)) (h ∙ z) ∙ round_own binary64 (fin true 0 (pos 0)) true 0 (down e) (down_pos e) zero_fits (refl, zero-mul (down e) ∙ sym (zero-mul 1)))))
        fold_zero
    go a h (inr l) =
        let v : HasValue (round binary64 false a (down e)) false a (down e) = subst (λ (n : ℕ). HasValue (round binary64 false n (down e)) false n (down e)) h (frac_val m e (sign_fits true m e p)) in
        subst InUnit
        (sym (fold_is (fin true m e) (neg (round binary64 false a (down e))) (rem_is true m e ∙ ap (λ (n : ℕ). round binary64 true n (down e)) h ∙ sym (round_neg binary64 a (down e)))))
        (fold_neg (round binary64 false a (down e)) a (down e) l (subst (λ (n : ℕ). n < down e) h (mod-lt (m * up e) (down_pos e))) v)
