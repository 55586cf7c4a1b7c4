-- An f64's value from its bit pattern, and a pattern's fields from its value. Assumes nothing.
use Rattle.std.proofs.Common.{◌≡◌, ℕ, suc, ◌+◌, ◌-◌, ◌*◌, ◌/◌, ◌%◌, ◌^◌, ◌<◌, ◌≤◌, Bool, true, false, cond, not, T, eqb, ltb, leb, ◌⊎◌, sym, refl, ap, ◌∙◌, subst, inl, inr, mod-eq_of_lt, eq-or-lt_of_le, arith, eqb→eq, ltb→lt, pow_pos, le-ltb, lt-ltb}
use native.Mathlib.Nat.{pow-succ', mod-le}
use mathlib.Core.Bool.{false≢true}
use lib.Dec.{not_T}
use lib.Arith.{digits_div, digits_mod, lt→nleb}
use lib.Ieee.{Float, nan, inf, fin, binary64, odd, fits, is_nan, of_bits, of_fields, nan_bits}
use lib.Ieee.Bits.{of_bits-fits, nan_bits_above, nan_bits_is, is_false}
use lib.Ieee.Fits.{round-fits}
use lib.Ieee.Exact.{HasValue, odd_sign}
use Rattle.float.specs.Def.{whole_root, root_scaled}
use Rattle.float.proofs.Unique.{unique}
use Rattle.float.proofs.Nearness.{scaled_val, r_ge, r_under}
use Rattle.float.proofs.WholeRoots.{whole_root_lem}

pub of_bits_is : (b : ℕ) → of_bits binary64 b ≡ of_fields binary64 (leb (2 ^ 63) b) (b % 2 ^ 63 / 2 ^ 52) (b % 2 ^ 52)
unfolding of_bits
of_bits_is b = refl

cond_no : (b : Bool) (x y : Float) → b ≡ false → cond b x y ≡ y
cond_no b x y h = rw h

ne_of_lt : (a b : ℕ) → a < b → eqb a b ≡ false
ne_of_lt a b h = is_false (eqb a b) (not_T (eqb a b) (λ t. never a b h (eqb→eq a b t)))
  where
    never : (a b : ℕ) → a < b → a ≡ b → ⊥
    never a b h e = omega arith

pub normal_is : (s : Bool) (x t : ℕ) → suc x < 2047 → of_fields binary64 s (suc x) t ≡ odd 53 s (2 ^ 52 + t) x 1074
unfolding of_fields
normal_is s x t h = cond_no (eqb (suc x) 2047) (cond (eqb t 0) (inf s) nan) (odd 53 s (2 ^ 52 + t) x 1074) (ne_of_lt (suc x) 2047 h)

-- ---- from a pattern to a value
module _ (x t : ℕ) (T-lt : t < 2 ^ 52) (X : suc x < 2047) where
  pattern_lt : suc x * 2 ^ 52 + t < 2 ^ 63
  pattern_lt = omega arith

  pattern_is : of_bits binary64 (suc x * 2 ^ 52 + t) ≡ odd 53 false (2 ^ 52 + t) x 1074
  pattern_is =
      let b = suc x * 2 ^ 52 + t in
      of_bits_is b
      ∙ ap (λ (s : Bool). of_fields binary64 s (b % 2 ^ 63 / 2 ^ 52) (b % 2 ^ 52)) (is_false (leb (2 ^ 63) b) (lt→nleb (2 ^ 63) b pattern_lt))
      ∙ ap (λ (z : ℕ). of_fields binary64 false z (b % 2 ^ 52)) (ap (λ (z : ℕ). z / 2 ^ 52) (mod-eq_of_lt pattern_lt) ∙ digits_div (suc x) T-lt)
      ∙ ap (λ (z : ℕ). of_fields binary64 false (suc x) z) (digits_mod (suc x) T-lt)
      ∙ normal_is false x t X

  pub pattern_val : HasValue (of_bits binary64 (suc x * 2 ^ 52 + t)) false ((2 ^ 52 + t) * 2 ^ x) (2 ^ 1074)
  pattern_val = subst (λ (z : Float). HasValue z false ((2 ^ 52 + t) * 2 ^ x) (2 ^ 1074)) (sym pattern_is) (odd_sign 53 false (2 ^ 52 + t) x 1074)

-- with the leading digit, which adds one to the field: 2 ^ 52 ≤ q ≤ 2 ^ 53
pub from_bits : (k q : ℕ) → 2 ^ 52 ≤ q → q ≤ 2 ^ 53 → k < 2045 → HasValue (of_bits binary64 (k * 2 ^ 52 + q)) false (q * 2 ^ k) (2 ^ 1074)
from_bits k q lo hi h = go (eq-or-lt_of_le hi)
  where
    field_one : (k q : ℕ) → 2 ^ 52 ≤ q → suc k * 2 ^ 52 + (q - 2 ^ 52) ≡ k * 2 ^ 52 + q
    field_one k q l = omega arith

    field_two : (k : ℕ) → suc (suc k) * 2 ^ 52 + 0 ≡ k * 2 ^ 52 + 2 ^ 53
    field_two k = omega arith

    lead : (q : ℕ) → 2 ^ 52 ≤ q → 2 ^ 52 + (q - 2 ^ 52) ≡ q
    lead q l = omega arith

    rest : (q : ℕ) → q < 2 ^ 53 → q - 2 ^ 52 < 2 ^ 52
    rest q l = omega arith

    one_less : (k : ℕ) → k < 2045 → suc k < 2047
    one_less k l = omega arith

    two_less : (k : ℕ) → k < 2045 → suc (suc k) < 2047
    two_less k l = omega arith

    double : (p : ℕ) → (2 ^ 52 + 0) * (2 * p) ≡ 2 ^ 53 * p
    double p = omega arith

    go : (q ≡ 2 ^ 53) ⊎ (q < 2 ^ 53) → HasValue (of_bits binary64 (k * 2 ^ 52 + q)) false (q * 2 ^ k) (2 ^ 1074)
    go (inl e) =
        subst (λ (z : ℕ). HasValue (of_bits binary64 (k * 2 ^ 52 + z)) false (z * 2 ^ k) (2 ^ 1074)) (sym e)
        (subst (λ (z : ℕ). HasValue (of_bits binary64 z) false (2 ^ 53 * 2 ^ k) (2 ^ 1074)) (field_two k)
        (subst (λ (z : ℕ). HasValue (of_bits binary64 (suc (suc k) * 2 ^ 52 + 0)) false z (2 ^ 1074)) (ap (λ (z : ℕ). (2 ^ 52 + 0) * z) (pow-succ' 2 k) ∙ double (2 ^ k))
        (pattern_val (suc k) 0 (pow_pos 52) (two_less k h))))
    go (inr l) =
        subst (λ (z : ℕ). HasValue (of_bits binary64 z) false (q * 2 ^ k) (2 ^ 1074)) (field_one k q lo)
        (subst (λ (z : ℕ). HasValue (of_bits binary64 (suc k * 2 ^ 52 + (q - 2 ^ 52))) false (z * 2 ^ k) (2 ^ 1074)) (lead q lo)
        (pattern_val k (q - 2 ^ 52) (rest q l) (one_less k h)))

pub not_nan : (b : ℕ) → b ≤ 2047 * 2 ^ 52 → T (not (nan_bits binary64 b))
not_nan b h = subst (λ (z : Bool). T (not z)) (sym (nan_bits_above binary64 b)) (not_T (ltb (2047 * 2 ^ 52) (b % 2 ^ 63)) (λ t. never b (b % 2 ^ 63) (mod-le b (2 ^ 63)) h (ltb→lt (2047 * 2 ^ 52) (b % 2 ^ 63) t)))
  where
    never : (b r : ℕ) → r ≤ b → b ≤ 2047 * 2 ^ 52 → 2047 * 2 ^ 52 < r → ⊥
    never b r p q s = omega arith

-- ---- `root_even`
rounded_lo : (r : ℕ) → 2 ^ 53 ≤ r → 2 ^ 52 ≤ (r + 1) / 2
rounded_lo r h = omega arith

pub rounded_hi : (r : ℕ) → r < 2 ^ 54 → (r + 1) / 2 ≤ 2 ^ 53
rounded_hi r h = omega arith

pub scaled_fits : (n : ℕ) → T (fits binary64 (root_scaled n))
unfolding root_scaled
scaled_fits n = round-fits binary64 false (2 * whole_root 1200 n + cond (eqb (whole_root 1200 n * whole_root 1200 n) n) 0 1) (2 * 2 ^ 600)

pub digits_lt : (v r : ℕ) → v < 2 ^ 54 → r ≡ whole_root 54 (v * 2 ^ 54) → r < 2 ^ 54
digits_lt v r h e = subst (λ (z : ℕ). z < 2 ^ 54) (sym e) (r_under v (whole_root 54 (v * 2 ^ 54)) (whole_root_lem 54 (v * 2 ^ 54) (under v h)) h)
  where
    under : (v : ℕ) → v < 2 ^ 54 → v * 2 ^ 54 < 4 ^ 54
    under v h = omega arith

pub even_root : (v h : ℕ) → 2 ^ 52 ≤ v → v < 2 ^ 54 → h ≤ 1049 → of_bits binary64 ((h + 484) * 2 ^ 52 + (whole_root 54 (v * 2 ^ 54) + 1) / 2) ≡ root_scaled (v * 4 ^ (h + 36))
even_root v h lo hi few =
    let r = whole_root 54 (v * 2 ^ 54) in
    let R = whole_root_lem 54 (v * 2 ^ 54) (under v hi) in
    let q = (r + 1) / 2 in
    unique binary64 (of_bits binary64 ((h + 484) * 2 ^ 52 + q)) (root_scaled (v * 4 ^ (h + 36))) false (q * 2 ^ (h + 484)) (2 ^ 1074) (pow_pos 1074)
    (of_bits-fits binary64 ((h + 484) * 2 ^ 52 + q)) (scaled_fits (v * 4 ^ (h + 36)))
    (from_bits (h + 484) q (rounded_lo r (r_ge v r R lo)) (rounded_hi r (r_under v r R hi)) (index h few))
    (scaled_val v h lo hi few)
  where
    under : (v : ℕ) → v < 2 ^ 54 → v * 2 ^ 54 < 4 ^ 54
    under v h = omega arith

    index : (h : ℕ) → h ≤ 1049 → h + 484 < 2045
    index h k = omega arith

-- ---- which patterns are a not-a-number's
pub other_pattern : (b : ℕ) → b % 2 ^ 63 ≤ 2047 * 2 ^ 52 → T (not (nan_bits binary64 b))
other_pattern b h = subst (λ (z : Bool). T (not z)) (sym (nan_bits_above binary64 b ∙ le-ltb (2047 * 2 ^ 52) (b % 2 ^ 63) h)) tt

is_nan_lem : (x : Float) → is_nan x ≡ true → nan ≡ x
unfolding is_nan
is_nan_lem nan h = refl
is_nan_lem (inf s) h = absurd (false≢true h)
is_nan_lem (fin s m e) h = absurd (false≢true h)

pub nan_pattern : (b : ℕ) → 2047 * 2 ^ 52 < b % 2 ^ 63 → nan ≡ of_bits binary64 b
nan_pattern b h = is_nan_lem _ (sym (nan_bits_is binary64 b) ∙ nan_bits_above binary64 b ∙ lt-ltb (2047 * 2 ^ 52) (b % 2 ^ 63) h)
