-- The remainder of two floats by whole numbers: what the bits say of a float above zero, and that the rest of the two multiples of the smallest value is the rest of the floats. Assumes nothing.
use Rattle.std.proofs.Common.{◌≡◌, ℕ, zero, suc, ◌+◌, ◌-◌, ◌*◌, ◌/◌, ◌%◌, ◌^◌, ◌<◌, ◌≤◌, Bool, true, false, cond, not, ◌&&◌, T, eqb, ltb, leb, ◌⊎◌, ℤ, sym, refl, ap, ◌∙◌, subst, inl, inr, mod-eq_of_lt, mod-lt, mul-pos, arith, ltb→lt, pow_pos, zero-lt-suc, zero-mul, nltb→le, lt→ltb}
use mathlib.Core.Path.{ap₂}
use mathlib.Core.Bool.{false≢true, true≢false}
use native.Mathlib.Nat.{add-mul-mod_self_left, mod-add-div, mul-lt-mul_of_pos_right, mul_right_comm, mul_assoc, mul_comm, zero-mod, pow-succ'}
use lib.Pow.{pow-add}
use lib.Ieee.{Float, nan, inf, fin, binary64, up, down, neg, add, rem, lt, round, fits, of_bits, of_fields, odd}
use lib.Ieee.Positive.{positive}
use lib.Ieee.Fits.{up_pos, down_pos}
use lib.Ieee.Exact.{HasValue, odd_sign}
use Rattle.float.specs.Def.{abs_of, rem_euclid_of}
use Rattle.float.specs.Remainder.{InUnits, IsUnits, IsPacked}
use Rattle.float.proofs.Unique.{round_own}
use Rattle.float.proofs.Fraction.{rescale, round_neg}
use Rattle.float.proofs.Patterns.{of_bits_is, pattern_val}
use lib.Arith.{lt→nleb}
use lib.Ieee.Bits.{is_false, of_bits-fits}
use lib.Dec.{eqb-suc-zero}
use Rattle.float.proofs.Branches.{zero+, yes, no, both_true, rem_neg, rem_else}
use Rattle.float.proofs.Finite.{positive_of, low_is, bits, field_of, digits_of, Lead, lead_in, low_val, high_val, field_lt}

-- ---- whole numbers
-- c times as much of both leaves c times the rest
pub scaled_rest : (u v c : ℕ) → 0 < v → 0 < c → (u * c) % (v * c) ≡ u % v * c
scaled_rest u v c V C =
    ap (λ (z : ℕ). z % (v * c)) (split u v c (u % v) (u / v) (mod-add-div u v))
    ∙ add-mul-mod_self_left (u % v * c) (v * c) (u / v)
    ∙ mod-eq_of_lt (mul-lt-mul_of_pos_right (mod-lt u V) C)
  where
    split : (u v c w k : ℕ) → w + v * k ≡ u → u * c ≡ w * c + v * c * k
    split u v c w k e = ap (λ (z : ℕ). z * c) (sym e) ∙ opened v c w k
      where
        opened : (v c w k : ℕ) → (w + v * k) * c ≡ w * c + v * c * k
        opened v c w k = omega arith

-- the rest of two fractions, each a multiple of one over L
pub rest_value : (U V L A B Y : ℕ) → 0 < V → 0 < L → 0 < B → 0 < Y → U * L ≡ A * Y → V * L ≡ B * Y → U % V * L ≡ A % B * Y
rest_value U V L A B Y hV hL hB hY e f = sym (scaled_rest U V L hV hL) ∙ ap₂ (λ (x y : ℕ). x % y) e f ∙ scaled_rest A B Y hB hY

-- of a * 2 ^ q by b * 2 ^ p
pub rest_down : (a q b p : ℕ) → 0 < b → p ≤ q → (a * 2 ^ (q - p)) % b * 2 ^ p ≡ (a * 2 ^ q) % (b * 2 ^ p)
rest_down a q b p B h =
    sym (scaled_rest (a * 2 ^ (q - p)) b (2 ^ p) B (pow_pos p))
    ∙ ap (λ (z : ℕ). z % (b * 2 ^ p)) (mul_assoc a (2 ^ (q - p)) (2 ^ p) ∙ ap (λ (z : ℕ). a * z) (sym (pow-add 2 (q - p) p) ∙ ap (λ (z : ℕ). 2 ^ z) (back q p h)))
  where
    back : (q p : ℕ) → p ≤ q → q - p + p ≡ q
    back q p h = omega arith

-- a number below 2 ^ 53 at a lower place than one from 2 ^ 52 on
pub rest_up : (a q b p : ℕ) → a < 2 ^ 53 → 2 ^ 52 ≤ b → q < p → a * 2 ^ q ≡ (a * 2 ^ q) % (b * 2 ^ p)
rest_up a q b p A B h = sym (mod-eq_of_lt (less a (2 ^ q) b (2 ^ p) (2 ^ (p - suc q)) (pow_pos q) (pow_pos (p - suc q)) A B (parts q p h)))
  where
    parts : (q p : ℕ) → q < p → 2 ^ p ≡ 2 * 2 ^ q * 2 ^ (p - suc q)
    parts q p h = ap (λ (z : ℕ). 2 ^ z) (whole q p h) ∙ pow-add 2 (suc q) (p - suc q) ∙ ap (λ (z : ℕ). z * 2 ^ (p - suc q)) (twice q)
      where
        whole : (q p : ℕ) → q < p → p ≡ suc q + (p - suc q)
        whole q p h = omega arith

        twice : (q : ℕ) → 2 ^ suc q ≡ 2 * 2 ^ q
        twice q = pow-succ' 2 q

    less : (a x b y z : ℕ) → 0 < x → 0 < z → a < 2 ^ 53 → 2 ^ 52 ≤ b → y ≡ 2 * x * z → a * x < b * y
    less a x b y z X Z A B e = grind arith

-- one step of the loop
pub rest_step : (a n b r : ℕ) → r ≡ (a * 2 ^ n) % b → 2 * r % b ≡ (a * 2 ^ (n + 1)) % b
rest_step a n b r e =
    ap (λ (z : ℕ). 2 * z % b) e
    ∙ twice b (a * 2 ^ n)
    ∙ ap (λ (z : ℕ). z % b) (more a n)
  where
    twice : (b u : ℕ) → 2 * (u % b) % b ≡ 2 * u % b
    twice b u = sym (ap (λ (z : ℕ). z % b) (split b u (u % b) (u / b) (mod-add-div u b)) ∙ add-mul-mod_self_left (2 * (u % b)) b (2 * (u / b)))
      where
        split : (b u w k : ℕ) → w + b * k ≡ u → 2 * u ≡ 2 * w + b * (2 * k)
        split b u w k e = ap (λ (z : ℕ). 2 * z) (sym e) ∙ opened b w k
          where
            opened : (b w k : ℕ) → 2 * (w + b * k) ≡ 2 * w + b * (2 * k)
            opened b w k = omega arith

    more : (a n : ℕ) → 2 * (a * 2 ^ n) ≡ a * 2 ^ (n + 1)
    more a n = sym (ap (λ (z : ℕ). a * z) (ap (λ (z : ℕ). 2 ^ z) (next n) ∙ pow-succ' 2 n) ∙ turned a (2 ^ n))
      where
        next : (n : ℕ) → n + 1 ≡ suc n
        next n = omega arith

        turned : (a x : ℕ) → a * (2 * x) ≡ 2 * (a * x)
        turned a x = omega arith

-- ---- a float above zero by its bits
-- what is above zero has no sign
pub plain : (x : Float) (s : Bool) (a c : ℕ) → T (positive x) → HasValue x s a c → HasValue x false a c
plain nan s a c p v = absurd p
plain (inf t) s a c p v = absurd p
plain (fin true m e) s a c p v = absurd p
plain (fin false m e) s a c p v = (refl, v.1)

module _ (x : Float) (p : T (positive x)) (g : T (fits binary64 x)) (l : ℕ) (L : Lead (field_of (bits x p g)) l) where
  units_value : HasValue x (leb (2 ^ 63) (bits x p g)) ((digits_of (bits x p g) + l * 2 ^ 52) * 2 ^ (field_of (bits x p g) - l)) (2 ^ 1074)
  unfolding Lead
  units_value = elim L [
    | inl z ↦ subst (λ (w : ℕ). HasValue x (leb (2 ^ 63) (bits x p g)) w (2 ^ 1074)) (low (digits_of (bits x p g)) (field_of (bits x p g)) l z.0 z.1) (low_val x p g z.0)
    | inr z ↦ subst (λ (w : ℕ). HasValue x (leb (2 ^ 63) (bits x p g)) w (2 ^ 1074)) (high (digits_of (bits x p g)) (field_of (bits x p g)) l z.1) (high_val x p g (field_of (bits x p g) - 1) (one_less (field_of (bits x p g)) z.0) (subst (λ (w : ℕ). w < 2047) (one_less (field_of (bits x p g)) z.0) (field_lt x p g)))
  ]
    where
      low : (t f l : ℕ) → f ≡ 0 → l ≡ 0 → t * 2 ^ 0 ≡ (t + l * 2 ^ 52) * 2 ^ (f - l)
      low t f l e k = ap₂ (λ (u v : ℕ). u * 2 ^ v) (digits t l k) (place f l e)
        where
          digits : (t l : ℕ) → l ≡ 0 → t ≡ t + l * 2 ^ 52
          digits t l k = omega arith

          place : (f l : ℕ) → f ≡ 0 → 0 ≡ f - l
          place f l e = omega arith

      high : (t f l : ℕ) → l ≡ 1 → (2 ^ 52 + t) * 2 ^ (f - 1) ≡ (t + l * 2 ^ 52) * 2 ^ (f - l)
      high t f l k = ap₂ (λ (u v : ℕ). u * 2 ^ v) (digits t l k) (place f l k)
        where
          digits : (t l : ℕ) → l ≡ 1 → 2 ^ 52 + t ≡ t + l * 2 ^ 52
          digits t l k = omega arith

          place : (f l : ℕ) → l ≡ 1 → f - 1 ≡ f - l
          place f l k = omega arith

      one_less : (f : ℕ) → (f ≡ 0 → ⊥) → f ≡ suc (f - 1)
      one_less f h = omega arith

  pub units_are : IsUnits x (digits_of (bits x p g) + l * 2 ^ 52) (field_of (bits x p g) - l)
  unfolding Lead InUnits
  units_are = record {
    value = plain x (leb (2 ^ 63) (bits x p g)) ((digits_of (bits x p g) + l * 2 ^ 52) * 2 ^ (field_of (bits x p g) - l)) (2 ^ 1074) p units_value;
    some = (lead_in x p g l L).0;
    short = (lead_in x p g l L).1;
    few = (lead_in x p g l L).2;
    full = elim L [ inl z ↦ inl (none (field_of (bits x p g)) l z.0) | inr z ↦ inr (all (digits_of (bits x p g)) l z.1) ];
  }
    where
      none : (f l : ℕ) → f ≡ 0 → f - l ≡ 0
      none f l e = omega arith

      all : (t l : ℕ) → l ≡ 1 → 2 ^ 52 ≤ t + l * 2 ^ 52
      all t l e = omega arith

-- ---- a multiple of the smallest value as a float
pub pack_step : (m p w : ℕ) → 0 < p → m * 2 ^ p ≡ w → 2 * m * 2 ^ (p - 1) ≡ w
pack_step m p w h e = turned m (2 ^ (p - 1)) ∙ ap (λ (z : ℕ). m * z) (sym (ap (λ (z : ℕ). 2 ^ z) (next p h) ∙ pow-succ' 2 (p - 1))) ∙ e
  where
    next : (p : ℕ) → 0 < p → p ≡ suc (p - 1)
    next p h = omega arith

    turned : (m x : ℕ) → 2 * m * x ≡ m * (2 * x)
    turned m x = omega arith

below_or : (m k : ℕ) → (m < k) ⊎ (k ≤ m)
below_or m k = go (ltb m k) refl
  where
    go : (t : Bool) → ltb m k ≡ t → (m < k) ⊎ (k ≤ m)
    go true e = inl (ltb→lt m k (subst (λ (z : Bool). T z) (sym e) tt))
    go false e = inr (nltb→le m k (subst (λ (z : Bool). T (not z)) (sym e) tt))

low_pattern : (t : ℕ) → t < 2 ^ 52 → of_bits binary64 t ≡ odd 53 false t 0 1074
low_pattern t h =
    of_bits_is t
    ∙ ap (λ (s : Bool). of_fields binary64 s (t % 2 ^ 63 / 2 ^ 52) (t % 2 ^ 52)) (is_false (leb (2 ^ 63) t) (lt→nleb (2 ^ 63) t (wide t h)))
    ∙ ap₂ (λ (u v : ℕ). of_fields binary64 false u v) (field t h) (digits t h)
    ∙ low_is false t
  where
    wide : (t : ℕ) → t < 2 ^ 52 → t < 2 ^ 63
    wide t h = omega arith

    field : (t : ℕ) → t < 2 ^ 52 → t % 2 ^ 63 / 2 ^ 52 ≡ 0
    field t h = omega arith

    digits : (t : ℕ) → t < 2 ^ 52 → t % 2 ^ 52 ≡ t
    digits t h = omega arith

low_units : (p m : ℕ) → p ≡ 0 → m < 2 ^ 52 → InUnits (of_bits binary64 (p * 2 ^ 52 + m)) m p
unfolding InUnits
low_units p m e h =
    subst (λ (k : ℕ). HasValue (of_bits binary64 (k * 2 ^ 52 + m)) false (m * 2 ^ k) (2 ^ 1074)) (sym e)
    (subst (λ (b : ℕ). HasValue (of_bits binary64 b) false (m * 2 ^ 0) (2 ^ 1074)) (none m)
    (subst (λ (z : Float). HasValue z false (m * 2 ^ 0) (2 ^ 1074)) (sym (low_pattern m h)) (odd_sign 53 false m 0 1074)))
  where
    none : (m : ℕ) → m ≡ 0 * 2 ^ 52 + m
    none m = omega arith

high_units : (p m : ℕ) → m < 2 ^ 53 → p < 2046 → 2 ^ 52 ≤ m → InUnits (of_bits binary64 (p * 2 ^ 52 + m)) m p
unfolding InUnits
high_units p m M P h =
    subst (λ (b : ℕ). HasValue (of_bits binary64 b) false (m * 2 ^ p) (2 ^ 1074)) (field p m h)
    (subst (λ (d : ℕ). HasValue (of_bits binary64 (suc p * 2 ^ 52 + (m - 2 ^ 52))) false (d * 2 ^ p) (2 ^ 1074)) (lead m h)
    (pattern_val p (m - 2 ^ 52) (rest m h M) (top p P)))
  where
    field : (p m : ℕ) → 2 ^ 52 ≤ m → suc p * 2 ^ 52 + (m - 2 ^ 52) ≡ p * 2 ^ 52 + m
    field p m h = omega arith

    lead : (m : ℕ) → 2 ^ 52 ≤ m → 2 ^ 52 + (m - 2 ^ 52) ≡ m
    lead m h = omega arith

    rest : (m : ℕ) → 2 ^ 52 ≤ m → m < 2 ^ 53 → m - 2 ^ 52 < 2 ^ 52
    rest m h M = omega arith

    top : (p : ℕ) → p < 2046 → suc p < 2047
    top p h = omega arith

pub pattern_units : (p m : ℕ) → m < 2 ^ 53 → p < 2046 → (p ≡ 0) ⊎ (2 ^ 52 ≤ m) → InUnits (of_bits binary64 (p * 2 ^ 52 + m)) m p
pattern_units p m M P (inr h) = high_units p m M P h
pattern_units p m M P (inl e) = elim (below_or m (2 ^ 52)) [ inl h ↦ low_units p m e h | inr h ↦ high_units p m M P h ]

pub packed_is : (p m w k : ℕ) → m < 2 ^ 53 → p < 2046 → (p ≡ 0) ⊎ (2 ^ 52 ≤ m) → m * 2 ^ p ≡ w * 2 ^ k → IsPacked (of_bits binary64 (p * 2 ^ 52 + m)) w k
unfolding InUnits
packed_is p m w k M P h e = record {
  value = subst (λ (z : ℕ). HasValue (of_bits binary64 (p * 2 ^ 52 + m)) false z (2 ^ 1074)) e (unfold InUnits in pattern_units p m M P h);
  fits = of_bits-fits binary64 (p * 2 ^ 52 + m);
}

-- ---- the rest of two floats above zero
nonzero : (n : ℕ) → 0 < n → eqb n 0 ≡ false
nonzero zero h = absurd (none h)
  where
    none : 0 < 0 → ⊥
    none h = omega arith
nonzero (suc n) h = eqb-suc-zero n

cond_no : (b : Bool) (x y : Float) → b ≡ false → cond b x y ≡ y
cond_no b x y h = rw h

scaled_up : (u d L w e : ℕ) → u * L ≡ w * e → u * d * L ≡ w * (e * d)
scaled_up u d L w e h = mul_right_comm u d L ∙ ap (λ (z : ℕ). z * d) h ∙ mul_assoc w e d

scaled_over : (u e L w d : ℕ) → u * L ≡ w * d → u * e * L ≡ w * (e * d)
scaled_over u e L w d h = mul_right_comm u e L ∙ ap (λ (z : ℕ). z * e) h ∙ mul_assoc w d e ∙ ap (λ (z : ℕ). w * z) (mul_comm d e)

rest_is : (a b r : Float) (w z : ℕ) → T (positive a) → T (positive b) → T (fits binary64 r) → 0 < z → HasValue a false w (2 ^ 1074) → HasValue b false z (2 ^ 1074) → HasValue r false (w % z) (2 ^ 1074) → r ≡ rem binary64 a b
unfolding rem
rest_is nan b r w z p q g Z u v t = absurd p
rest_is (inf s) b r w z p q g Z u v t = absurd p
rest_is (fin true m e) b r w z p q g Z u v t = absurd p
rest_is (fin false m e) nan r w z p q g Z u v t = absurd q
rest_is (fin false m e) (inf s) r w z p q g Z u v t = absurd q
rest_is (fin false m e) (fin true n d) r w z p q g Z u v t = absurd q
rest_is (fin false m e) (fin false n d) r w z p q g Z u v t =
    let X = m * up e * down d % (n * up d * down e) in
    let Y = down e * down d in
    sym (cond_no (eqb n 0) nan (round binary64 false X Y) (nonzero n (ltb→lt 0 n q))
    ∙ round_own binary64 r false X Y (mul-pos (down_pos e) (down_pos d)) g
    (rescale r false (w % z) (2 ^ 1074) X Y (pow_pos 1074)
    (rest_value (m * up e * down d) (n * up d * down e) (2 ^ 1074) w z Y
    (mul-pos (mul-pos (ltb→lt 0 n q) (up_pos d)) (down_pos e)) (pow_pos 1074) Z (mul-pos (down_pos e) (down_pos d))
    (scaled_up (m * up e) (down d) (2 ^ 1074) w (down e) u.1)
    (scaled_over (n * up d) (down e) (2 ^ 1074) z (down d) v.1))
    t))

pub divided_low : (a b r : Float) (A q B p R : ℕ) → T (positive a) → T (positive b) → IsUnits a A q → IsUnits b B p → p ≤ q → R ≡ (A * 2 ^ (q - p)) % B → IsPacked r R p → r ≡ rem binary64 a b
divided_low a b r A q B p R P Q u v h e t =
    rest_is a b r (A * 2 ^ q) (B * 2 ^ p) P Q t.fits (mul-pos v.some (pow_pos p)) (unfold InUnits in u.value) (unfold InUnits in v.value)
    (subst (λ (z : ℕ). HasValue r false z (2 ^ 1074)) (ap (λ (z : ℕ). z * 2 ^ p) e ∙ rest_down A q B p v.some h) (unfold InUnits in t.value))

pub divided_high : (a b : Float) (A q B p : ℕ) → T (positive a) → T (positive b) → T (fits binary64 a) → IsUnits a A q → IsUnits b B p → q < p → a ≡ rem binary64 a b
divided_high a b A q B p P Q g u v h =
    rest_is a b a (A * 2 ^ q) (B * 2 ^ p) P Q g (mul-pos v.some (pow_pos p)) (unfold InUnits in u.value) (unfold InUnits in v.value)
    (subst (λ (z : ℕ). HasValue a false z (2 ^ 1074)) (rest_up A q B p u.short (full v.full) h) (unfold InUnits in u.value))
  where
    full : (p ≡ 0) ⊎ (2 ^ 52 ≤ B) → 2 ^ 52 ≤ B
    full (inl e) = absurd (none e h)
      where
        none : p ≡ 0 → q < p → ⊥
        none e h = omega arith
    full (inr l) = l

-- ---- with signs
rem_signs : (m n : ℕ) (e d : ℤ) (t : Bool) → neg (rem binary64 (fin false m e) (fin false n d)) ≡ rem binary64 (fin true m e) (fin t n d)
unfolding rem neg
rem_signs m n e d t = go (eqb n 0)
  where
    go : (b : Bool) → neg (cond b nan (round binary64 false (m * up e * down d % (n * up d * down e)) (down e * down d))) ≡ cond b nan (round binary64 true (m * up e * down d % (n * up d * down e)) (down e * down d))
    go true = refl
    go false = round_neg binary64 (m * up e * down d % (n * up d * down e)) (down e * down d)

rem_plain : (m n : ℕ) (e d : ℤ) (t : Bool) → rem binary64 (fin false m e) (fin false n d) ≡ rem binary64 (fin false m e) (fin t n d)
unfolding rem
rem_plain m n e d t = refl

pub below_zero : (x y r : Float) → T (positive (abs_of x)) → T (positive (abs_of y)) → lt x zero+ ≡ true → r ≡ rem binary64 (abs_of x) (abs_of y) → neg r ≡ rem binary64 x y
unfolding abs_of lt
below_zero nan y r p q h e = absurd p
below_zero (inf s) y r p q h e = absurd p
below_zero (fin s m k) nan r p q h e = absurd q
below_zero (fin s m k) (inf t) r p q h e = absurd q
below_zero (fin true m k) (fin t n d) r p q h e = ap neg e ∙ rem_signs m n k d t
below_zero (fin false m k) (fin t n d) r p q h e = absurd (none (m * up k * 1) (down k) (ltb→lt (m * up k * 1) (0 * 1 * down k) (yes h)))
  where
    none : (a d : ℕ) → a < 0 * 1 * d → ⊥
    none a d h = omega arith

pub not_below_zero : (x y r : Float) → T (positive (abs_of x)) → T (positive (abs_of y)) → lt x zero+ ≡ false → r ≡ rem binary64 (abs_of x) (abs_of y) → r ≡ rem binary64 x y
unfolding abs_of lt
not_below_zero nan y r p q h e = absurd p
not_below_zero (inf s) y r p q h e = absurd p
not_below_zero (fin s m k) nan r p q h e = absurd q
not_below_zero (fin s m k) (inf t) r p q h e = absurd q
not_below_zero (fin false m k) (fin t n d) r p q h e = e ∙ rem_plain m n k d t
not_below_zero (fin true m k) (fin t n d) r p q h e = absurd (no h (lt→ltb 0 (m * up k * 1 + 0 * 1 * down k) (more (m * up k) (0 * 1 * down k) (mul-pos (ltb→lt 0 m p) (up_pos k)))))
  where
    more : (a b : ℕ) → 0 < a → 0 < a * 1 + b
    more a b h = omega arith

pub both_positive : (x y a b : Float) → a ≡ abs_of x → b ≡ abs_of y → (lt a (inf false) && lt zero+ b) ≡ true → (lt zero+ a && lt b (inf false)) ≡ true → T (positive a) × T (positive b)
both_positive x y a b e f h k =
    let p = both_true (lt a (inf false)) (lt zero+ b) h in
    let q = both_true (lt zero+ a) (lt b (inf false)) k in
    (positive_of a q.0 p.0, positive_of b p.1 q.1)

-- ---- where one of the two is no number above zero
-- the rest of a zero
rem_zero : (s t : Bool) (n : ℕ) (e d : ℤ) → T (fits binary64 (fin s 0 e)) → 0 < n → fin s 0 e ≡ rem binary64 (fin s 0 e) (fin t n d)
unfolding rem
rem_zero s t n e d g N =
    let X = 0 * up e * down d % (n * up d * down e) in
    let Y = down e * down d in
    sym (cond_no (eqb n 0) nan (round binary64 s X Y) (nonzero n N)
    ∙ round_own binary64 (fin s 0 e) s X Y (mul-pos (down_pos e) (down_pos d)) g (refl, none (up e) (down d) (n * up d * down e) (down e) Y))
  where
    none : (u d v e y : ℕ) → 0 * u * y ≡ 0 * u * d % v * e
    none u d v e y =
        ap (λ (z : ℕ). z * y) (zero-mul u) ∙ zero-mul y
        ∙ sym (ap (λ (z : ℕ). z % v * e) (ap (λ (z : ℕ). z * d) (zero-mul u) ∙ zero-mul d) ∙ ap (λ (z : ℕ). z * e) (zero-mod v) ∙ zero-mul e)

above : (n : ℕ) (d : ℤ) → lt zero+ (fin false n d) ≡ true → 0 < n
above n d h = ltb→lt 0 n (positive_of (fin false n d) h (unfold lt in refl))

not_above : (m : ℕ) (e : ℤ) → lt zero+ (fin false m e) ≡ false → m ≡ 0
unfolding lt
not_above zero e h = refl
not_above (suc m) e h = absurd (no h (lt→ltb (0 * 1 * down e) (suc m * up e * 1) (more (down e) (suc m * up e) (mul-pos (zero-lt-suc m) (up_pos e)))))
  where
    more : (d a : ℕ) → 0 < a → 0 * 1 * d < a * 1
    more d a h = omega arith

and_false : (b : Bool) → (b && true) ≡ false → b ≡ false
and_false true h = h
and_false false h = refl

pub itself : (x y : Float) → T (fits binary64 x) → (lt (abs_of x) (inf false) && lt zero+ (abs_of y)) ≡ true → (lt zero+ (abs_of x) && lt (abs_of y) (inf false)) ≡ false → x ≡ rem binary64 x y
unfolding lt abs_of
itself nan y g h k = absurd (false≢true (unfold abs_of in unfold lt in h))
itself (inf s) y g h k = absurd (false≢true (unfold abs_of in unfold lt in h))
itself (fin s m e) nan g h k = absurd (false≢true ((both_true (lt (abs_of (fin s m e)) (inf false)) (lt zero+ (abs_of nan)) h).1))
itself (fin s m e) (inf t) g h k = unfold rem in refl
itself (fin s m e) (fin t n d) g h k = go m g (not_above m e (unfold abs_of in unfold lt in and_false (lt zero+ (fin false m e)) k))
  where
    go : (m : ℕ) → T (fits binary64 (fin s m e)) → m ≡ 0 → fin s m e ≡ rem binary64 (fin s m e) (fin t n d)
    go zero g z = rem_zero s t n e d g (above n d (unfold abs_of in (both_true (lt (abs_of (fin s m e)) (inf false)) (lt zero+ (abs_of (fin t n d))) h).1))
    go (suc m) g z = absurd (never m z)
      where
        never : (m : ℕ) → suc m ≡ 0 → ⊥
        never m z = omega arith

pub no_rest : (x y : Float) → (lt (abs_of x) (inf false) && lt zero+ (abs_of y)) ≡ false → nan ≡ rem binary64 x y
unfolding abs_of rem
no_rest nan y h = refl
no_rest (inf s) y h = refl
no_rest (fin s m e) nan h = refl
no_rest (fin s m e) (inf t) h = absurd (true≢false (unfold lt in h))
no_rest (fin s m e) (fin t n d) h = sym (cond_yes (eqb n 0) nan (round binary64 s (m * up e * down d % (n * up d * down e)) (down e * down d)) (zero_is n (not_above n d (unfold lt in h))))
  where
    cond_yes : (b : Bool) (x y : Float) → b ≡ true → cond b x y ≡ x
    cond_yes b x y h = rw h

    zero_is : (n : ℕ) → n ≡ 0 → eqb n 0 ≡ true
    zero_is zero h = refl
    zero_is (suc n) h = absurd (never n h)
      where
        never : (n : ℕ) → suc n ≡ 0 → ⊥
        never n z = omega arith

-- what the code finds, where the magnitudes are those of the two
module _ (x y a b : Float) (e : a ≡ abs_of x) (f : b ≡ abs_of y) where
  sized : (lt a (inf false) && lt zero+ b) ≡ true → (lt zero+ a && lt b (inf false)) ≡ true → T (positive (abs_of x)) × T (positive (abs_of y))
  sized h k =
      let p = both_positive x y a b e f h k in
      (subst (λ (z : Float). T (positive z)) e p.0, subst (λ (z : Float). T (positive z)) f p.1)

  pub told_below : (r : Float) → (lt a (inf false) && lt zero+ b) ≡ true → (lt zero+ a && lt b (inf false)) ≡ true → r ≡ rem binary64 a b → lt x zero+ ≡ true → neg r ≡ rem binary64 x y
  told_below r h k v l = below_zero x y r (sized h k).0 (sized h k).1 l (v ∙ ap₂ (λ (u w : Float). rem binary64 u w) e f)

  pub told_not_below : (r : Float) → (lt a (inf false) && lt zero+ b) ≡ true → (lt zero+ a && lt b (inf false)) ≡ true → r ≡ rem binary64 a b → lt x zero+ ≡ false → r ≡ rem binary64 x y
  told_not_below r h k v l = not_below_zero x y r (sized h k).0 (sized h k).1 l (v ∙ ap₂ (λ (u w : Float). rem binary64 u w) e f)

  pub told_itself : T (fits binary64 x) → (lt a (inf false) && lt zero+ b) ≡ true → (lt zero+ a && lt b (inf false)) ≡ false → x ≡ rem binary64 x y
  told_itself g h k =
      itself x y g
      (ap₂ (λ (u w : Float). lt u (inf false) && lt zero+ w) (sym e) (sym f) ∙ h)
      (ap₂ (λ (u w : Float). lt zero+ u && lt w (inf false)) (sym e) (sym f) ∙ k)

  pub told_none : (lt a (inf false) && lt zero+ b) ≡ false → nan ≡ rem binary64 x y
  told_none h = no_rest x y (ap₂ (λ (u w : Float). lt u (inf false) && lt zero+ w) (sym e) (sym f) ∙ h)

-- ---- with the sign taken off
pub euclid_below : (x y r b : Float) → r ≡ rem binary64 x y → b ≡ abs_of y → lt r zero+ ≡ true → add binary64 r b ≡ rem_euclid_of x y
euclid_below x y r b e f h = ap₂ (λ (u w : Float). add binary64 u w) e f ∙ rem_neg x y (ap (λ (z : Float). lt z zero+) (sym e) ∙ h)

pub euclid_else : (x y r : Float) → r ≡ rem binary64 x y → lt r zero+ ≡ false → r ≡ rem_euclid_of x y
euclid_else x y r e h = e ∙ rem_else x y (ap (λ (z : Float). lt z zero+) (sym e) ∙ h)
