-- Rounding keeps the order, of numbers with a sign: a number is (plus_of - minus_of) / den. Sums and differences of finite numbers keep it (`add-keeps`,
-- `differences-keep`), and with them the order of floats (`le-through`). Assumes nothing.
use mathlib.Core.Path.{◌≡◌, refl, sym, ap, ◌∙◌, subst}
use mathlib.Core.Logic.{◌⊎◌, inl, inr}
use mathlib.Core.Bool.{Bool, true, false, not, cond, ◌&&◌, ◌||◌}
use Prim.Native.Nat.{ℕ, ◌+◌, ◌-◌, ◌*◌, ◌≤◌, ◌<◌}
use native.Mathlib.Nat.{mul_comm, mul_assoc, mul_left_comm, mul-pos, add-mul, mul-sub, le_of_eq, le_of_lt, mul-le-mul_right, le_of_mul-le-mul_right, eq-zero-or-pos, zero-lt-suc}
use native.Mathlib.Omega.{arith}
use lib.Dec.{T, ltb, eqb, ltb→lt, lt→ltb, nltb→le, eqb→eq}
use lib.Ieee.{Float, nan, inf, fin, binary64, up, down, neg, sum, add, sub, lt, le, eq, round}
use lib.Ieee.Fits.{and_l, and_r, and_i, eq→eqb}
use lib.Ieee.Order.{round_mono}
use lib.Ieee.Scale.{finite}
use lib.Ieee.Positive.{den, den_pos}
use Rattle.float.proofs.Branches.{zero+}
use Rattle.float.proofs.Fraction.{round_neg}
use Rattle.cell_axis.proofs.Quotient.{round_ends}

abbrev pub plus_of : Float → ℕ
plus_of nan = 0
plus_of (inf s) = 0
plus_of (fin true m e) = 0
plus_of (fin false m e) = m * up e

abbrev pub minus_of : Float → ℕ
minus_of nan = 0
minus_of (inf s) = 0
minus_of (fin true m e) = m * up e
minus_of (fin false m e) = 0

-- x is no more than y, as numbers
pub record Before (x y : Float) : Type 0 where
  pub is : plus_of x * den y + minus_of y * den x ≤ plus_of y * den x + minus_of x * den y

pub before_self : (x : Float) → Before x x
before_self x = record { is = omega arith }

-- ---- of finite floats `le` says that
or_elim : {P : Type 0} (x y : Bool) → (T x → P) → (T y → P) → T (x || y) → P
or_elim true y f g t = f tt
or_elim false y f g t = g t

pub or_first : (x y : Bool) → T x → T (x || y)
or_first true y t = tt
or_first false y t = absurd t

or_second : (x y : Bool) → T y → T (x || y)
or_second true y t = tt
or_second false y t = t

both_up : (a b : ℕ) → T (ltb a b || (eqb a b && true)) → a ≤ b
both_up a b = or_elim (ltb a b) (eqb a b && true) (λ t. le_of_lt (ltb→lt a b t)) (λ t. le_of_eq (eqb→eq a b (and_l (eqb a b) true t)))

both_down : (a b : ℕ) → T (ltb b a || (eqb a b && true)) → b ≤ a
both_down a b = or_elim (ltb b a) (eqb a b && true) (λ t. le_of_lt (ltb→lt b a t)) (λ t. le_of_eq (sym (eqb→eq a b (and_l (eqb a b) true t))))

zeros : (a b : ℕ) → T (eqb a b && eqb a 0) → a + b ≤ 0
zeros a b t = sums a b (eqb→eq a b (and_l (eqb a b) (eqb a 0) t)) (eqb→eq a 0 (and_r (eqb a b) (eqb a 0) t))
  where
    sums : (a b : ℕ) → a ≡ b → a ≡ 0 → a + b ≤ 0
    sums a b p q = omega arith

pub before_of_le : (x y : Float) → T (finite x) → T (finite y) → T (le x y) → Before x y
unfolding le lt eq
before_of_le nan y p q h = absurd p
before_of_le (inf s) y p q h = absurd p
before_of_le (fin s m e) nan p q h = absurd q
before_of_le (fin s m e) (inf t) p q h = absurd q
before_of_le (fin true m e) (fin true n d) p q h = record { is = omega (arith, both_down (m * up e * down d) (n * up d * down e) h) }
before_of_le (fin true m e) (fin false n d) p q h = record { is = omega arith }
before_of_le (fin false m e) (fin true n d) p q h = record { is = omega (arith, zeros (m * up e * down d) (n * up d * down e) h) }
before_of_le (fin false m e) (fin false n d) p q h = record { is = omega (arith, both_up (m * up e * down d) (n * up d * down e) h) }

up_both : (a b : ℕ) → a ≤ b → T (ltb a b || (eqb a b && true))
up_both a b h = go (ltb a b) (nltb→le a b)
  where
    level : a ≤ b → b ≤ a → a ≡ b
    level p q = omega arith

    go : (x : Bool) → (T (not x) → b ≤ a) → T (x || (eqb a b && true))
    go true f = tt
    go false f = and_i (eqb a b) true (eq→eqb (level h (f tt))) tt

down_both : (a b : ℕ) → b ≤ a → T (ltb b a || (eqb a b && true))
down_both a b h = go (ltb b a) (nltb→le b a)
  where
    level : b ≤ a → a ≤ b → a ≡ b
    level p q = omega arith

    go : (x : Bool) → (T (not x) → a ≤ b) → T (x || (eqb a b && true))
    go true f = tt
    go false f = and_i (eqb a b) true (eq→eqb (level h (f tt))) tt

null_both : (a b : ℕ) → a + b ≤ 0 → T (eqb a b && eqb a 0)
null_both a b h = and_i (eqb a b) (eqb a 0) (eq→eqb (one a b h)) (eq→eqb (two a b h))
  where
    one : (a b : ℕ) → a + b ≤ 0 → a ≡ b
    one a b h = omega arith

    two : (a b : ℕ) → a + b ≤ 0 → a ≡ 0
    two a b h = omega arith

apart_both : (a b : ℕ) → T (ltb 0 (a + b) || (eqb a b && eqb a 0))
apart_both a b =
    elim (eq-zero-or-pos (a + b)) [
      | inl z ↦ or_second (ltb 0 (a + b)) (eqb a b && eqb a 0) (null_both a b (le_of_eq z))
      | inr l ↦ or_first (ltb 0 (a + b)) (eqb a b && eqb a 0) (lt→ltb 0 (a + b) l)
    ]

pub le_of_before : (x y : Float) → T (finite x) → T (finite y) → Before x y → T (le x y)
unfolding le lt eq
le_of_before nan y p q h = absurd p
le_of_before (inf s) y p q h = absurd p
le_of_before (fin s m e) nan p q h = absurd q
le_of_before (fin s m e) (inf t) p q h = absurd q
le_of_before (fin true m e) (fin true n d) p q h = down_both (m * up e * down d) (n * up d * down e) (omega (arith, h.is))
le_of_before (fin true m e) (fin false n d) p q h = apart_both (m * up e * down d) (n * up d * down e)
le_of_before (fin false m e) (fin true n d) p q h = null_both (m * up e * down d) (n * up d * down e) (omega (arith, h.is))
le_of_before (fin false m e) (fin false n d) p q h = up_both (m * up e * down d) (n * up d * down e) (omega (arith, h.is))

-- ---- the order is one, and turns with the signs
pub before_through : (x y z : Float) → Before x y → Before y z → Before x z
before_through x y z h k =
    record {
      is =
          le_of_mul-le-mul_right
          (chain (plus_of x) (minus_of x) (den x) (plus_of y) (minus_of y) (den y) (plus_of z) (minus_of z) (den z)
          (mul-le-mul_right (den z) h.is) (mul-le-mul_right (den x) k.is))
          (den_pos y);
    }
  where
    chain : (A a u B b v C c w : ℕ) → (A * v + b * u) * w ≤ (B * u + a * v) * w → (B * w + c * v) * u ≤ (C * v + b * w) * u → (A * w + c * u) * v ≤ (C * u + a * w) * v
    chain A a u B b v C c w h k =
        let e1 : (A * v + b * u) * w ≡ A * (v * w) + b * (u * w) = simp (add-mul, mul_assoc) in
        let e2 : (B * u + a * v) * w ≡ B * (u * w) + a * (v * w) = simp (add-mul, mul_assoc) in
        let e3 : (B * w + c * v) * u ≡ B * (u * w) + c * (u * v) = simp (add-mul, mul_assoc, mul_comm, mul_left_comm) in
        let e4 : (C * v + b * w) * u ≡ C * (u * v) + b * (u * w) = simp (add-mul, mul_assoc, mul_comm, mul_left_comm) in
        let e5 : (A * w + c * u) * v ≡ A * (v * w) + c * (u * v) = simp (add-mul, mul_assoc, mul_comm, mul_left_comm) in
        let e6 : (C * u + a * w) * v ≡ C * (u * v) + a * (v * w) = simp (add-mul, mul_assoc, mul_comm, mul_left_comm) in
        omega (arith, e1, e2, e3, e4, e5, e6, h, k)

no_nan_above : (x : Float) → T (le x nan) → ⊥
unfolding le
no_nan_above nan h = h
no_nan_above (inf s) h = h
no_nan_above (fin s m e) h = h

pub le_through : (x y z : Float) → T (le x y) → T (le y z) → T (le x z)
le_through nan y z h k = absurd (unfold le in h)
le_through (inf true) y nan h k = absurd (no_nan_above y k)
le_through (inf true) y (inf true) h k = unfold le in tt
le_through (inf true) y (inf false) h k = unfold le in tt
le_through (inf true) y (fin t n d) h k = unfold le in tt
le_through (inf false) nan z h k = absurd (unfold le in h)
le_through (inf false) (inf true) z h k = absurd (unfold le in h)
le_through (inf false) (inf false) z h k = k
le_through (inf false) (fin t n d) z h k = absurd (unfold le in h)
le_through (fin s m e) nan z h k = absurd (unfold le in h)
le_through (fin s m e) (inf true) z h k = absurd (unfold le in h)
le_through (fin s m e) (inf false) nan h k = absurd (unfold le in k)
le_through (fin s m e) (inf false) (inf true) h k = absurd (unfold le in k)
le_through (fin s m e) (inf false) (inf false) h k = unfold le in tt
le_through (fin s m e) (inf false) (fin t n d) h k = absurd (unfold le in k)
le_through (fin s m e) (fin t n d) nan h k = absurd (unfold le in k)
le_through (fin s m e) (fin t n d) (inf true) h k = absurd (unfold le in k)
le_through (fin s m e) (fin t n d) (inf false) h k = unfold le in tt
le_through (fin s m e) (fin t n d) (fin u l g) h k =
    le_of_before (fin s m e) (fin u l g) tt tt
    (before_through (fin s m e) (fin t n d) (fin u l g) (before_of_le (fin s m e) (fin t n d) tt tt h) (before_of_le (fin t n d) (fin u l g) tt tt k))

pub before_turned : (x y : Float) → T (finite x) → T (finite y) → Before x y → Before (neg y) (neg x)
unfolding neg
before_turned nan y p q h = absurd p
before_turned (inf s) y p q h = absurd p
before_turned (fin s m e) nan p q h = absurd q
before_turned (fin s m e) (inf t) p q h = absurd q
before_turned (fin true m e) (fin true n d) p q h = record { is = omega (arith, h.is) }
before_turned (fin true m e) (fin false n d) p q h = record { is = omega (arith, h.is) }
before_turned (fin false m e) (fin true n d) p q h = record { is = omega (arith, h.is) }
before_turned (fin false m e) (fin false n d) p q h = record { is = omega (arith, h.is) }

turned_finite : (x : Float) → T (finite x) → T (finite (neg x))
unfolding neg
turned_finite nan p = p
turned_finite (inf s) p = p
turned_finite (fin s m e) p = tt

pub le_turned : (x y : Float) → T (le x y) → T (le (neg y) (neg x))
le_turned nan y h = absurd (unfold le in h)
le_turned (inf s) nan h = absurd (unfold le in h)
le_turned (inf true) (inf true) h = unfold le in unfold neg in tt
le_turned (inf true) (inf false) h = unfold le in unfold neg in tt
le_turned (inf false) (inf true) h = absurd (unfold le in h)
le_turned (inf false) (inf false) h = unfold le in unfold neg in tt
le_turned (inf true) (fin t n d) h = unfold le in unfold neg in tt
le_turned (inf false) (fin t n d) h = absurd (unfold le in h)
le_turned (fin s m e) nan h = absurd (unfold le in h)
le_turned (fin s m e) (inf true) h = absurd (unfold le in h)
le_turned (fin s m e) (inf false) h = unfold le in unfold neg in tt
le_turned (fin s m e) (fin t n d) h =
    le_of_before (neg (fin t n d)) (neg (fin s m e)) (turned_finite (fin t n d) tt) (turned_finite (fin s m e) tt)
    (before_turned (fin s m e) (fin t n d) tt tt (before_of_le (fin s m e) (fin t n d) tt tt h))

-- ---- x is (p - q) / c, rounded
abbrev pub Rounded : Float → ℕ → ℕ → ℕ → Type 0
Rounded x p q c = ((q ≤ p) × (x ≡ round binary64 false (p - q) c)) ⊎ ((p ≤ q) × (x ≡ round binary64 true (q - p) c))

le_by : {x y x' y' : Float} → x ≡ x' → y ≡ y' → T (le x' y') → T (le x y)
le_by {x} {y} {x'} {y'} p q h = subst (λ (z : Float). T (le z y)) (sym p) (subst (λ (z : Float). T (le x' z)) (sym q) h)

pub sub_mul : (a b k : ℕ) → (a - b) * k ≡ a * k - b * k
sub_mul a b k = mul_comm (a - b) k ∙ mul-sub k a b ∙ ap (λ (z : ℕ). z - k * b) (mul_comm k a) ∙ ap (λ (z : ℕ). a * k - z) (mul_comm k b)

gap_le : (p q c p' q' c' : ℕ) → q' ≤ p' → p * c' + q' * c ≤ p' * c + q * c' → (p - q) * c' ≤ (p' - q') * c
gap_le p q c p' q' c' l h = omega (arith, sub_mul p q c', sub_mul p' q' c, mul-le-mul_right c l, h)

pub from_zero : (a c : ℕ) → 0 < c → T (le zero+ (round binary64 false a c))
from_zero a c C = subst (λ (z : Float). T (le z (round binary64 false a c))) round_ends.0 (round_mono binary64 0 1 a c (zero-lt-suc 0) C (none a c))
  where
    none : (a c : ℕ) → 0 * c ≤ a * 1
    none a c = omega arith

to_zero : (a c : ℕ) → 0 < c → a ≡ 0 → T (le (round binary64 false a c) zero+)
to_zero a c C e = subst (λ (z : Float). T (le (round binary64 false a c) z)) round_ends.0 (round_mono binary64 a c 0 1 C (zero-lt-suc 0) (none a c e))
  where
    none : (a c : ℕ) → a ≡ 0 → a * 1 ≤ 0 * c
    none a c e = omega arith

pub rounded_keeps : (x y : Float) (p q c p' q' c' : ℕ) → 0 < c → 0 < c' → Rounded x p q c → Rounded y p' q' c' → p * c' + q' * c ≤ p' * c + q * c' → T (le x y)
rounded_keeps x y p q c p' q' c' C C' (inl u) (inl v) h = le_by u.1 v.1 (round_mono binary64 (p - q) c (p' - q') c' C C' (gap_le p q c p' q' c' v.0 h))
rounded_keeps x y p q c p' q' c' C C' (inr u) (inr v) h =
    le_by (u.1 ∙ sym (round_neg binary64 (q - p) c)) (v.1 ∙ sym (round_neg binary64 (q' - p') c'))
    (le_turned (round binary64 false (q' - p') c') (round binary64 false (q - p) c)
    (round_mono binary64 (q' - p') c' (q - p) c C' C (gap_le q' p' c' q p c u.0 (omega (arith, h)))))
rounded_keeps x y p q c p' q' c' C C' (inr u) (inl v) h =
    le_by (u.1 ∙ sym (round_neg binary64 (q - p) c)) v.1
    (le_through (neg (round binary64 false (q - p) c)) zero+ (round binary64 false (p' - q') c')
    (le_through (neg (round binary64 false (q - p) c)) (neg zero+) zero+ (le_turned zero+ (round binary64 false (q - p) c) (from_zero (q - p) c C)) (unfold neg in unfold le in tt))
    (from_zero (p' - q') c' C'))
rounded_keeps x y p q c p' q' c' C C' (inl u) (inr v) h =
    le_by u.1 (v.1 ∙ sym (round_neg binary64 (q' - p') c'))
    (le_through (round binary64 false (p - q) c) zero+ (neg (round binary64 false (q' - p') c')) (to_zero (p - q) c C (omega (arith, first)))
    (le_through zero+ (neg zero+) (neg (round binary64 false (q' - p') c')) (unfold neg in unfold le in tt) (le_turned (round binary64 false (q' - p') c') zero+ (to_zero (q' - p') c' C' (omega (arith, second))))))
  where
    first : p ≤ q
    first = le_of_mul-le-mul_right (omega (arith, h, mul-le-mul_right c v.0)) C'

    second : q' ≤ p'
    second = le_of_mul-le-mul_right (omega (arith, h, mul-le-mul_right c' u.0)) C

-- ---- a sum is
sum_rounded : (s t : Bool) (a b c : ℕ) → Rounded (sum binary64 s a t b c) (cond s 0 a + cond t 0 b) (cond s a 0 + cond t b 0) c
unfolding sum
sum_rounded true true a b c = inr (omega arith, ap (λ (z : ℕ). round binary64 true z c) (omega arith))
sum_rounded false false a b c = inl (omega arith, ap (λ (z : ℕ). round binary64 false z c) (omega arith))
sum_rounded true false a b c = go (ltb a b) (ltb→lt a b) (nltb→le a b)
  where
    low : (y : Bool) → (T y → b < a) → (T (not y) → a ≤ b) → b ≤ a → Rounded (round binary64 y (a - b) c) (0 + b) (a + 0) c
    low true f g h = inr (omega (arith, h), ap (λ (z : ℕ). round binary64 true z c) (omega (arith, h)))
    low false f g h = inl (omega (arith, g tt), ap (λ (z : ℕ). round binary64 false z c) (omega (arith, h, g tt)))

    go : (x : Bool) → (T x → a < b) → (T (not x) → b ≤ a) → Rounded (cond x (round binary64 false (b - a) c) (round binary64 (ltb b a) (a - b) c)) (0 + b) (a + 0) c
    go true f g = inl (omega (arith, f tt), ap (λ (z : ℕ). round binary64 false z c) (omega (arith, f tt)))
    go false f g = low (ltb b a) (ltb→lt b a) (nltb→le b a) (g tt)
sum_rounded false true a b c = go (ltb a b) (ltb→lt a b) (nltb→le a b)
  where
    go : (x : Bool) → (T x → a < b) → (T (not x) → b ≤ a) → Rounded (cond x (round binary64 true (b - a) c) (round binary64 false (a - b) c)) (a + 0) (0 + b) c
    go true f g = inr (omega (arith, f tt), ap (λ (z : ℕ). round binary64 true z c) (omega (arith, f tt)))
    go false f g = inl (omega (arith, g tt), ap (λ (z : ℕ). round binary64 false z c) (omega (arith, g tt)))

moved : (x : Float) (c p q p' q' : ℕ) → p ≡ p' → q ≡ q' → Rounded x p q c → Rounded x p' q' c
moved x c p q p' q' e f r = subst (λ (z : ℕ). Rounded x z q' c) e (subst (λ (z : ℕ). Rounded x p z c) f r)

pub add_rounded : (x y : Float) → T (finite x) → T (finite y) → Rounded (add binary64 x y) (plus_of x * den y + plus_of y * den x) (minus_of x * den y + minus_of y * den x) (den x * den y)
unfolding add
add_rounded nan y p q = absurd p
add_rounded (inf s) y p q = absurd p
add_rounded (fin s m e) nan p q = absurd q
add_rounded (fin s m e) (inf t) p q = absurd q
add_rounded (fin true m e) (fin true n d) p q =
    moved _ (down e * down d) 0 (m * up e * down d + n * up d * down e) (0 * down d + 0 * down e) (m * up e * down d + n * up d * down e) (omega arith) refl (sum_rounded true true (m * up e * down d) (n * up d * down e) (down e * down d))
add_rounded (fin true m e) (fin false n d) p q =
    moved _ (down e * down d) (0 + n * up d * down e) (m * up e * down d + 0) (0 * down d + n * up d * down e) (m * up e * down d + 0 * down e) (omega arith) (omega arith) (sum_rounded true false (m * up e * down d) (n * up d * down e) (down e * down d))
add_rounded (fin false m e) (fin true n d) p q =
    moved _ (down e * down d) (m * up e * down d + 0) (0 + n * up d * down e) (m * up e * down d + 0 * down e) (0 * down d + n * up d * down e) (omega arith) (omega arith) (sum_rounded false true (m * up e * down d) (n * up d * down e) (down e * down d))
add_rounded (fin false m e) (fin false n d) p q =
    moved _ (down e * down d) (m * up e * down d + n * up d * down e) 0 (m * up e * down d + n * up d * down e) (0 * down d + 0 * down e) refl (omega arith) (sum_rounded false false (m * up e * down d) (n * up d * down e) (down e * down d))

pub split : (A B u v u' v' : ℕ) → (A * v + B * u) * (u' * v') ≡ A * u' * (v * v') + B * v' * (u * u')
split A B u v u' v' = simp (add-mul, mul_assoc, mul_comm, mul_left_comm)

pub turned : (A B u v u' v' : ℕ) → (A * v' + B * u') * (u * v) ≡ A * u * (v * v') + B * v * (u * u')
turned A B u v u' v' = simp (add-mul, mul_assoc, mul_comm, mul_left_comm)

summed : (A a u B b v A' a' u' B' b' v' : ℕ) → A * u' + a' * u ≤ A' * u + a * u' → B * v' + b' * v ≤ B' * v + b * v'
    → (A * v + B * u) * (u' * v') + (a' * v' + b' * u') * (u * v) ≤ (A' * v' + B' * u') * (u * v) + (a * v + b * u) * (u' * v')
summed A a u B b v A' a' u' B' b' v' h k =
    let e1 = split A B u v u' v' in
    let e2 = turned a' b' u v u' v' in
    let e3 = turned A' B' u v u' v' in
    let e4 = split a b u v u' v' in
    let h1 : A * u' * (v * v') + a' * u * (v * v') ≤ A' * u * (v * v') + a * u' * (v * v') = wide (A * u') (a' * u) (A' * u) (a * u') (v * v') h in
    let h2 : B * v' * (u * u') + b' * v * (u * u') ≤ B' * v * (u * u') + b * v' * (u * u') = wide (B * v') (b' * v) (B' * v) (b * v') (u * u') k in
    omega (arith, e1, e2, e3, e4, h1, h2)
  where
    wide : (a b c d k : ℕ) → a + b ≤ c + d → a * k + b * k ≤ c * k + d * k
    wide a b c d k h = omega (arith, add-mul a b k, add-mul c d k, mul-le-mul_right k h)

pub add_keeps : (x y x' y' : Float) → T (finite x) → T (finite y) → T (finite x') → T (finite y') → Before x x' → Before y y' → T (le (add binary64 x y) (add binary64 x' y'))
add_keeps x y x' y' p q p' q' h k =
    rounded_keeps (add binary64 x y) (add binary64 x' y')
    (plus_of x * den y + plus_of y * den x) (minus_of x * den y + minus_of y * den x) (den x * den y)
    (plus_of x' * den y' + plus_of y' * den x') (minus_of x' * den y' + minus_of y' * den x') (den x' * den y')
    (mul-pos (den_pos x) (den_pos y)) (mul-pos (den_pos x') (den_pos y')) (add_rounded x y p q) (add_rounded x' y' p' q')
    (summed (plus_of x) (minus_of x) (den x) (plus_of y) (minus_of y) (den y) (plus_of x') (minus_of x') (den x') (plus_of y') (minus_of y') (den y') h.is k.is)

-- the more is taken away, and from the less, the less is left
pub differences_keep : (x y x' y' : Float) → T (finite x) → T (finite y) → T (finite x') → T (finite y') → Before x x' → Before y' y → T (le (sub binary64 x y) (sub binary64 x' y'))
unfolding sub
differences_keep x y x' y' p q p' q' h k = add_keeps x (neg y) x' (neg y') p (turned_finite y q) p' (turned_finite y' q') h (before_turned y' y q' q k)

pub sub_keeps : (a x y : Float) → T (finite a) → T (finite x) → T (finite y) → Before x y → T (le (sub binary64 a y) (sub binary64 a x))
sub_keeps a x y p q r h = differences_keep a y a x p r p q (before_self a) h

-- ---- what is finite
pub sub_finite : (x y : Float) → T (finite (sub binary64 x y)) → T (finite x) × T (finite y)
unfolding sub add neg
sub_finite nan y h = absurd h
sub_finite (inf s) nan h = absurd h
sub_finite (inf true) (inf true) h = absurd h
sub_finite (inf true) (inf false) h = absurd h
sub_finite (inf false) (inf true) h = absurd h
sub_finite (inf false) (inf false) h = absurd h
sub_finite (inf s) (fin t n d) h = absurd h
sub_finite (fin s m e) nan h = absurd h
sub_finite (fin s m e) (inf t) h = absurd h
sub_finite (fin s m e) (fin t n d) h = (tt, tt)

pub between_finite : (x y z : Float) → T (finite x) → T (finite z) → T (le x y) → T (le y z) → T (finite y)
unfolding le
between_finite nan y z p q h k = absurd p
between_finite (inf s) y z p q h k = absurd p
between_finite (fin s m e) nan z p q h k = absurd h
between_finite (fin s m e) (inf true) z p q h k = absurd h
between_finite (fin s m e) (inf false) nan p q h k = absurd q
between_finite (fin s m e) (inf false) (inf u) p q h k = absurd q
between_finite (fin s m e) (inf false) (fin u l g) p q h k = absurd k
between_finite (fin s m e) (fin t n d) z p q h k = tt

-- ---- x lies from l up to h
pub record Amid (l x h : Float) : Type 0 where
  pub low : T (le l x)
  pub high : T (le x h)

-- the differences of what lies from c up to d and what lies from lo up to hi
pub differences_amid : (c a d lo b hi : Float) → T (finite (sub binary64 c hi)) → T (finite (sub binary64 d lo)) → T (le c a) → T (le a d) → T (le lo b) → T (le b hi) → Amid (sub binary64 c hi) (sub binary64 a b) (sub binary64 d lo)
differences_amid c a d lo b hi x y p q r t =
    let P = sub_finite c hi x in
    let Q = sub_finite d lo y in
    let A = between_finite c a d P.0 Q.0 p q in
    let B = between_finite lo b hi Q.1 P.1 r t in
    record {
      low = differences_keep c hi a b P.0 P.1 A B (before_of_le c a P.0 A p) (before_of_le b hi B P.1 t);
      high = differences_keep a b d lo A B Q.0 Q.1 (before_of_le a d A Q.0 q) (before_of_le lo b Q.1 B r);
    }

-- the differences of a and what lies from lo up to hi
pub difference_amid : (a b lo hi : Float) → T (finite (sub binary64 a hi)) → T (finite (sub binary64 a lo)) → T (le lo b) → T (le b hi) → Amid (sub binary64 a hi) (sub binary64 a b) (sub binary64 a lo)
difference_amid a b lo hi x y p q =
    let A = sub_finite a hi x in
    let L = (sub_finite a lo y).1 in
    let B = between_finite lo b hi L A.1 p q in
    record { low = sub_keeps a b hi A.0 B A.1 (before_of_le b hi B A.1 q); high = sub_keeps a lo b A.0 L B (before_of_le lo b L B p) }
