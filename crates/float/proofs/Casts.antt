-- The branches of `to_u64` and `to_i64` that bring a number to an end of the range, over the width. Assumes nothing.
use Rattle.std.proofs.Common.{◌≡◌, ℕ, ◌+◌, ◌-◌, ◌*◌, ◌/◌, ◌^◌, ◌<◌, ◌≤◌, min, Bool, true, false, ◌||◌, ltb, ℤ, pos, neg_ℤ, sym, refl, ap, subst, true≢false, zero-lt-suc, mul-pos, one-mul, le-div_iff_mul-le, mul-one, arith, lt→ltb, nltb→le, pow_pos}
use mathlib.Core.Bool.{false≢true}
use lib.Dec.{not_T}
use lib.Ieee.{Float, nan, inf, fin, up, down, lt, le, ne, to_unsigned, to_signed}
use lib.Ieee.Fits.{down_pos}
use Rattle.float.proofs.Branches.{no}

-- a negative number is below one that is not, where one of them is not zero
lt_mixed : (a b : ℕ) → 0 < a + b → ltb 0 (a + b) ≡ false → ⊥
lt_mixed a b h k = no k (lt→ltb 0 (a + b) h)

left_pos : (a b : ℕ) → 0 < a → 0 < a + b
left_pos a b h = omega arith

right_pos : (a b : ℕ) → 0 < b → 0 < a + b
right_pos a b h = omega arith

pub unsigned_low : (w : ℕ) (x : Float) → lt (fin true 1 (pos 0)) x ≡ false → 0 ≡ to_unsigned w x
unfolding lt to_unsigned
unsigned_low w nan h = refl
unsigned_low w (inf true) h = refl
unsigned_low w (inf false) h = absurd (true≢false h)
unsigned_low w (fin true m e) h = refl
unsigned_low w (fin false m e) h = absurd (lt_mixed (1 * 1 * down e) (m * up e * 1) (left_pos (1 * 1 * down e) (m * up e * 1) (mul-pos (zero-lt-suc 0) (down_pos e))) h)

-- a value that is not below 2 ^ w
at_least : (w m : ℕ) (e : ℤ) → ltb (m * up e * 1) (1 * 2 ^ w * down e) ≡ false → 2 ^ w ≤ m * up e / down e
at_least w m e h =
    (le-div_iff_mul-le (down_pos e)).1
    (subst (λ (z : ℕ). z * down e ≤ m * up e) (one-mul (2 ^ w)) (subst (λ (z : ℕ). 1 * 2 ^ w * down e ≤ z) (mul-one (m * up e))
    (nltb→le (m * up e * 1) (1 * 2 ^ w * down e) (not_T (ltb (m * up e * 1) (1 * 2 ^ w * down e)) (no h)))))

capped : (q c : ℕ) → c ≤ q → c - 1 ≡ min q (c - 1)
capped q c h = omega arith

capped_at : (q c : ℕ) → c ≤ q → c ≡ min q c
capped_at q c h = omega arith

pub unsigned_high : (w : ℕ) (x : Float) → lt (fin true 1 (pos 0)) x ≡ true → lt x (fin false 1 (pos w)) ≡ false → 2 ^ w - 1 ≡ to_unsigned w x
unfolding lt to_unsigned
unsigned_high w nan h k = absurd (false≢true h)
unsigned_high w (inf true) h k = absurd (false≢true h)
unsigned_high w (inf false) h k = refl
unsigned_high w (fin true m e) h k = absurd (lt_mixed (m * up e * 1) (1 * 2 ^ w * down e) (right_pos (m * up e * 1) (1 * 2 ^ w * down e) (mul-pos (mul-pos (zero-lt-suc 0) (pow_pos w)) (down_pos e))) k)
unsigned_high w (fin false m e) h k = capped (m * up e / down e) (2 ^ w) (at_least w m e k)

pub signed_high : (w : ℕ) (x : Float) → le (fin true 1 (pos w)) x ≡ true → lt x (fin false 1 (pos w)) ≡ false → pos (2 ^ w - 1) ≡ to_signed w x
unfolding lt le to_signed
signed_high w nan h k = absurd (false≢true h)
signed_high w (inf true) h k = absurd (false≢true h)
signed_high w (inf false) h k = refl
signed_high w (fin true m e) h k = absurd (lt_mixed (m * up e * 1) (1 * 2 ^ w * down e) (right_pos (m * up e * 1) (1 * 2 ^ w * down e) (mul-pos (mul-pos (zero-lt-suc 0) (pow_pos w)) (down_pos e))) k)
signed_high w (fin false m e) h k = ap pos (capped (m * up e / down e) (2 ^ w) (at_least w m e k))

pub signed_nan : (w : ℕ) (x : Float) → x ≡ nan → pos 0 ≡ to_signed w x
unfolding to_signed
signed_nan w x h = sym (ap (to_signed w) h)

or_first : (a b : Bool) → (a || b) ≡ false → a ≡ false
or_first true b h = absurd (true≢false h)
or_first false b h = refl

pub signed_low : (w : ℕ) (x : Float) → le (fin true 1 (pos w)) x ≡ false → ne x x ≡ false → neg_ℤ (pos (2 ^ w)) ≡ to_signed w x
unfolding le ne to_signed
signed_low w nan h k = absurd (true≢false k)
signed_low w (inf true) h k = refl
signed_low w (inf false) h k = absurd (true≢false h)
signed_low w (fin false m e) h k = absurd (lt_mixed (1 * 2 ^ w * down e) (m * up e * 1) (left_pos (1 * 2 ^ w * down e) (m * up e * 1) (mul-pos (mul-pos (zero-lt-suc 0) (pow_pos w)) (down_pos e))) (or_first (ltb 0 (1 * 2 ^ w * down e + m * up e * 1)) _ h))
signed_low w (fin true m e) h k = ap (λ (n : ℕ). neg_ℤ (pos n)) (capped_at (m * up e / down e) (2 ^ w) (at_least w m e (or_first (ltb (m * up e * 1) (1 * 2 ^ w * down e)) _ h)))
