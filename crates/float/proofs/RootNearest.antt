-- `rootOf x` is the value nearest to the root of x, for a finite x above zero (`root-nearest`). Assumes nothing.
use Rattle.std.proofs.Common.{◌≡◌, ℕ, zero, suc, ◌+◌, ◌-◌, ◌*◌, ◌/◌, ◌%◌, ◌^◌, ◌<◌, ◌≤◌, Bool, true, false, not, T, leb, ◌⊎◌, sym, refl, ap, ◌∙◌, subst, inl, inr, le_trans, le_of_eq, lt_of_lt_of_le, le_of_suc-le-suc, lt_of_le_of_lt, lt_irrefl, mul-le-mul_right, mod-lt, zero-lt-suc, mul_assoc, mul_comm, add-mul, mul-le-mul, add_comm, le_antisymm, lt_of_mul-lt-mul_right, mul-lt-mul_of_pos_right, mul-pos, lt_of_not-le, mul_right_comm, not-le_of_lt, le_of_mul-le-mul_right, mul-div_cancel, arith, ltb→lt, lt→ltb, leb→le, pow_pos, pow_mono, pow-add}
use native.Mathlib.Nat.{mul-mul-mul_comm}
use lib.Dec.{nleb→lt}
use lib.Count.{count_leading_zeros}
use lib.Ieee.{Float, nan, inf, fin, binary64, up, down, lt, fits}
use lib.Ieee.Exact.{HasValue}
use lib.Ieee.Positive.{num, den, den_pos, positive, own_value, value→cross, positive_of_value}
use Rattle.float.specs.Def.{whole_root, root_scaled, root_of}
use Rattle.float.specs.Theorems.{sum_num, sum_den, MiddleAtMost, MiddleAbove, NearestRoot}
use Rattle.float.proofs.Unique.{holds, place, unique}
use Rattle.float.proofs.Fraction.{lt_at, rescale}
use Rattle.float.proofs.WholeRoots.{whole_root_lem}
use Rattle.float.proofs.Nearness.{scaled_val, r_ge, four_pow, next_product}
use Rattle.float.proofs.Patterns.{scaled_fits}
use Rattle.float.proofs.Normal.{normal, rescaled, even_sum, odd_sum, half_le}
use Rattle.float.proofs.Finite.{units_of, root_fin}

-- ---- on whole numbers: the digits p of the root, the rounded q, and the unit k
twice_even : (p : ℕ) → p % 2 ≡ 0 → 2 * ((p + 1) / 2) ≡ p
twice_even p h = omega arith

twice_odd : (p : ℕ) → p % 2 ≡ 1 → 2 * ((p + 1) / 2) ≡ p + 1
twice_odd p h = omega arith

parity : (p : ℕ) → (p % 2 ≡ 0) ⊎ (p % 2 ≡ 1)
parity p = go (p % 2) refl (mod-lt p (zero-lt-suc 1))
  where
    none : (y x : ℕ) → y ≡ suc (suc x) → y < 2 → ⊥
    none y x e l = omega arith

    go : (x : ℕ) → p % 2 ≡ x → p % 2 < 2 → (p % 2 ≡ 0) ⊎ (p % 2 ≡ 1)
    go zero e l = inl e
    go (suc zero) e l = inr e
    go (suc (suc x)) e l = absurd (none (p % 2) x e l)

-- n is on the grid: from 2 ^ 52 units up it is a whole number of units
abbrev OnGrid : ℕ → ℕ → Type 0
OnGrid n k = 2 ^ 52 * k ≤ n → (b : ℕ) × (n ≡ b * k)

doubled : (q p k : ℕ) → 2 * q ≡ p → q * k + q * k ≡ p * k
doubled q p k e = sym (add-mul q q k) ∙ ap (λ (z : ℕ). z * k) (two q ∙ e)
  where
    two : (q : ℕ) → q + q ≡ 2 * q
    two q = omega arith

one_less : (b q k : ℕ) → 0 < k → b * k < q * k → (b + 1) * k ≤ q * k
one_less b q k K h = mul-le-mul_right k (weak b q (lt_of_mul-lt-mul_right k h))
  where
    weak : (b q : ℕ) → b < q → b + 1 ≤ q
    weak b q h = omega arith

below_sum : (n p k : ℕ) → 0 < k → 2 ^ 53 ≤ p → OnGrid n k → n < (p + 1) / 2 * k → n + (p + 1) / 2 * k ≤ p * k
below_sum n p k K least grid h = elim (parity p) [
  | inl e ↦ weak n ((p + 1) / 2 * k) (p * k) h (doubled ((p + 1) / 2) p k (twice_even p e))
  | inr o ↦
      let q = (p + 1) / 2 in
      let step : n + k ≤ q * k = elim (le_or_lt (2 ^ 52 * k) n) [
        | inl g ↦ let b = grid g in subst (λ (z : ℕ). z + k ≤ q * k) (sym b.1) (le_trans (le_of_eq (sym (next_product b.0 k))) (one_less b.0 q k K (subst (λ (z : ℕ). z < q * k) b.1 h)))
        | inr l ↦ under n k q l (mul-le-mul_right k (big p least o))
      ] in
      odd_end n (q * k) (p * k) k step (doubled q (p + 1) k (twice_odd p o) ∙ next_product p k)
]
  where
    weak : (n x y : ℕ) → n < x → x + x ≡ y → n + x ≤ y
    weak n x y h e = omega arith

    odd_end : (n x y k : ℕ) → n + k ≤ x → x + x ≡ y + k → n + x ≤ y
    odd_end n x y k h e = omega arith

    big : (p : ℕ) → 2 ^ 53 ≤ p → p % 2 ≡ 1 → 2 ^ 52 + 1 ≤ (p + 1) / 2
    big p h o = omega arith

    under : (n k q : ℕ) → n < 2 ^ 52 * k → (2 ^ 52 + 1) * k ≤ q * k → n + k ≤ q * k
    under n k q l h = omega (arith, next_product (2 ^ 52) k)

    le_or_lt : (a b : ℕ) → (a ≤ b) ⊎ (b < a)
    le_or_lt a b = go (leb a b) (leb→le a b) (nleb→lt a b)
      where
        go : (t : Bool) → (T t → a ≤ b) → (T (not t) → b < a) → (a ≤ b) ⊎ (b < a)
        go true f g = inl (f tt)
        go false f g = inr (g tt)

above_sum : (n p k : ℕ) → 0 < k → 2 ^ 53 ≤ p → OnGrid n k → (p + 1) / 2 * k < n → (p + 1) * k ≤ n + (p + 1) / 2 * k
above_sum n p k K least grid h = elim (parity p) [
  | inr o ↦ weak n ((p + 1) / 2 * k) ((p + 1) * k) h (doubled ((p + 1) / 2) (p + 1) k (twice_odd p o))
  | inl e ↦
      let q = (p + 1) / 2 in
      let b = grid (le_trans (mul-le-mul_right k (big p least)) (less (q * k) n h)) in
      let step : q * k + k ≤ n = subst (λ (z : ℕ). q * k + k ≤ z) (sym b.1) (le_trans (le_of_eq (sym (next_product q k))) (one_less q b.0 k K (subst (λ (z : ℕ). q * k < z) b.1 h))) in
      even_end n (q * k) (p * k) k ((p + 1) * k) step (doubled q p k (twice_even p e)) (next_product p k)
]
  where
    weak : (n x y : ℕ) → x < n → x + x ≡ y → y ≤ n + x
    weak n x y h e = omega arith

    less : (a b : ℕ) → a < b → a ≤ b
    less a b h = omega arith

    big : (p : ℕ) → 2 ^ 53 ≤ p → 2 ^ 52 ≤ (p + 1) / 2
    big p h = omega arith

    even_end : (n x y k z : ℕ) → x + k ≤ n → x + x ≡ y → z ≡ y + k → z ≤ n + x
    even_end n x y k z h e f = omega arith

-- squared: w is v * 2 ^ 54
sq_below : (s p k w : ℕ) → s ≤ p * k → p * p ≤ w → s * s ≤ w * (k * k)
sq_below s p k w h r = le_trans (mul-le-mul h h) (le_trans (le_of_eq (mul-mul-mul_comm p k p k)) (mul-le-mul_right (k * k) r))

sq_above : (s p k w : ℕ) → 0 < k → (p + 1) * k ≤ s → w < (p + 1) * (p + 1) → w * (k * k) < s * s
sq_above s p k w K h r = lt_of_lt_of_le (mul-lt-mul_of_pos_right r (mul-pos K K)) (le_trans (le_of_eq (sym (mul-mul-mul_comm (p + 1) k (p + 1) k))) (mul-le-mul h h))

-- ---- a value of the format, in units of 2 ^ -1074
pow_le : (m j k : ℕ) → m < 2 ^ 53 → 2 ^ 52 * 2 ^ k ≤ m * 2 ^ j → k ≤ j
pow_le m j k h l = le_of_suc-le-suc (lt_of_not-le (λ (g : suc j ≤ k). not-le_of_lt (lt_of_lt_of_le (mul-lt-mul_of_pos_right h (pow_pos j)) (le_trans (le_of_eq (sym (pow-add 2 53 j))) (le_trans (pow_mono (more j k g)) (le_of_eq (pow-add 2 52 k))))) l))
  where
    more : (j k : ℕ) → suc j ≤ k → 53 + j ≤ 52 + k
    more j k h = omega arith

back : (j k : ℕ) → k ≤ j → j ≡ j - k + k
back j k h = omega arith

abbrev Gridded : Float → Type 0
Gridded y = (n : ℕ) × HasValue y false n (2 ^ 1074) × ((k : ℕ) → OnGrid n (2 ^ k))

gridded : (y : Float) → T (positive y) → T (fits binary64 y) → Gridded y
gridded nan p g = absurd p
gridded (inf s) p g = absurd p
gridded (fin true m e) p g = absurd p
gridded (fin false zero e) p g = absurd (lt_irrefl 0 (ltb→lt 0 0 p))
gridded (fin false (suc m) e) p g =
    let H = holds binary64 false m e g in
    let P = place 1074 e H.high in (
      suc m * 2 ^ P.0,
      (refl, mul_assoc (suc m) (up e) (2 ^ 1074) ∙ ap (λ (z : ℕ). suc m * z) P.1 ∙ sym (mul_assoc (suc m) (2 ^ P.0) (down e))),
      λ k l. (suc m * 2 ^ (P.0 - k), ap (λ (z : ℕ). suc m * 2 ^ z) (back P.0 k (pow_le (suc m) P.0 k H.short l)) ∙ ap (λ (z : ℕ). suc m * z) (pow-add 2 (P.0 - k) k) ∙ sym (mul_assoc (suc m) (2 ^ (P.0 - k)) (2 ^ k))),
    )

-- ---- x as v * 4 ^ (h + 36) / 4 ^ 600
abbrev Parts : Float → Type 0
Parts x = (v : ℕ) × (h : ℕ) × (2 ^ 52 ≤ v) × (v < 2 ^ 54) × (h ≤ 1049) × (num x * 4 ^ 600 ≡ v * 4 ^ (h + 36) * den x)

whole_of : (x : Float) (s : Bool) (a q : ℕ) → HasValue x s (a * 2 ^ q) (2 ^ 1074) → num x * 4 ^ 600 ≡ a * 2 ^ (q + 126) * den x
whole_of nan s a q v = absurd v
whole_of (inf t) s a q v = absurd v
whole_of (fin t m e) s a q v =
    sym (mul_assoc (m * up e) (2 ^ 1074) (2 ^ 126)) ∙ ap (λ (z : ℕ). z * 2 ^ 126) v.1 ∙ mul_right_comm (a * 2 ^ q) (down e) (2 ^ 126) ∙ ap (λ (z : ℕ). z * down e) (mul_assoc a (2 ^ q) (2 ^ 126) ∙ ap (λ (z : ℕ). a * z) (sym (pow-add 2 q 126)))

parts : (x : Float) → T (positive x) → T (fits binary64 x) → Parts x
parts x p g =
    let U = units_of x p g in
    let a = U.1 in
    let q = U.2 in
    let N = (normal a U.4 U.5).1 in
    let z = count_leading_zeros 64 a - 11 in
    let whole = whole_of x U.0 a q U.3 in
    elim (parity (q + 54 - z)) [
      | inl e ↦ (a * 2 ^ z, (q + 54 - z) / 2, N.low, once (a * 2 ^ z) N.high, half_le z q U.6, whole ∙ ap (λ (y : ℕ). y * den x) (sym (rescaled a z ((q + 54 - z) / 2) q (even_sum z q N.shift e))))
      | inr o ↦ (a * 2 ^ (z + 1), (q + 54 - z) / 2, subst (λ (y : ℕ). 2 ^ 52 ≤ y) (sym (next a z)) (grow (a * 2 ^ z) N.low), subst (λ (y : ℕ). y < 2 ^ 54) (sym (next a z)) (twice (a * 2 ^ z) N.high), half_le z q U.6, whole ∙ ap (λ (y : ℕ). y * den x) (sym (rescaled a (z + 1) ((q + 54 - z) / 2) q (odd_sum z q N.shift (not_even (q + 54 - z) o)))))
    ]
  where
    once : (n : ℕ) → n < 2 ^ 53 → n < 2 ^ 54
    once n h = omega arith

    twice : (n : ℕ) → n < 2 ^ 53 → n * 2 < 2 ^ 54
    twice n h = omega arith

    grow : (n : ℕ) → 2 ^ 52 ≤ n → 2 ^ 52 ≤ n * 2
    grow n h = omega arith

    next : (a z : ℕ) → a * 2 ^ (z + 1) ≡ a * 2 ^ z * 2
    next a z = ap (λ (n : ℕ). a * n) (pow-add 2 z 1) ∙ sym (mul_assoc a (2 ^ z) 2)

    not_even : (n : ℕ) → n % 2 ≡ 1 → n % 2 ≡ 0 → ⊥
    not_even n h k = omega arith

root_is : (x : Float) (w : ℕ) → T (positive x) → num x * 4 ^ 600 ≡ w * den x → root_of x ≡ root_scaled w
root_is nan w p h = absurd p
root_is (inf s) w p h = absurd p
root_is (fin true m e) w p h = absurd p
root_is (fin false m e) w p h = root_fin m e (ltb→lt 0 m p) ∙ ap root_scaled (ap (λ (z : ℕ). z / down e) h ∙ mul-div_cancel w (den_pos (fin false m e)))

-- ---- the law
-- the sum of two values in units, and the squares
sum_units : (y r : Float) (a b l : ℕ) → HasValue y false a l → HasValue r false b l → sum_num y r * l ≡ (a + b) * sum_den y r
sum_units y r a b l v w =
    add-mul (num y * den r) (num r * den y) l
    ∙ ap (λ (z : ℕ). z + num r * den y * l) (mul_right_comm (num y) (den r) l ∙ ap (λ (z : ℕ). z * den r) (value→cross y a l v) ∙ mul_assoc a (den y) (den r))
    ∙ ap (λ (z : ℕ). a * (den y * den r) + z) (mul_right_comm (num r) (den y) l ∙ ap (λ (z : ℕ). z * den y) (value→cross r b l w) ∙ mul_assoc b (den r) (den y) ∙ ap (λ (z : ℕ). b * z) (mul_comm (den r) (den y)))
    ∙ sym (add-mul a b (den y * den r))

-- s / d is the sum, l units to one; 4 * x is w * k * k / (l * l)
cross_le : (s d l t w c n : ℕ) → 0 < l → s * l ≡ t * d → 4 * n * (l * l) ≡ w * c → t * t ≤ w → s * s * c ≤ 4 * n * (d * d)
cross_le s d l t w c n L e f h =
    le_of_mul-le-mul_right (le_trans (le_of_eq (left s d l t c e)) (le_trans (mul-le-mul_right (d * d * c) h) (le_of_eq (right d l w c n f)))) (mul-pos L L)
  where
    left : (s d l t c : ℕ) → s * l ≡ t * d → s * s * c * (l * l) ≡ t * t * (d * d * c)
    left s d l t c e = mul_right_comm (s * s) c (l * l) ∙ ap (λ (z : ℕ). z * c) (sym (mul-mul-mul_comm s l s l) ∙ ap (λ (z : ℕ). z * z) e ∙ mul-mul-mul_comm t d t d) ∙ mul_assoc (t * t) (d * d) c

    right : (d l w c n : ℕ) → 4 * n * (l * l) ≡ w * c → w * (d * d * c) ≡ 4 * n * (d * d) * (l * l)
    right d l w c n f = ap (λ (z : ℕ). w * z) (mul_comm (d * d) c) ∙ sym (mul_assoc w c (d * d)) ∙ ap (λ (z : ℕ). z * (d * d)) (sym f) ∙ mul_right_comm (4 * n) (l * l) (d * d)

cross_lt : (s d l t w c n : ℕ) → 0 < l → 0 < d → 0 < c → s * l ≡ t * d → 4 * n * (l * l) ≡ w * c → w < t * t → 4 * n * (d * d) < s * s * c
cross_lt s d l t w c n L D C e f h =
    lt_of_mul-lt-mul_right (l * l) (lt_of_le_of_lt (le_of_eq (sym (right d l w c n f))) (lt_of_lt_of_le (mul-lt-mul_of_pos_right h (mul-pos (mul-pos D D) C)) (le_of_eq (sym (left s d l t c e)))))
  where
    left : (s d l t c : ℕ) → s * l ≡ t * d → s * s * c * (l * l) ≡ t * t * (d * d * c)
    left s d l t c e = mul_right_comm (s * s) c (l * l) ∙ ap (λ (z : ℕ). z * c) (sym (mul-mul-mul_comm s l s l) ∙ ap (λ (z : ℕ). z * z) e ∙ mul-mul-mul_comm t d t d) ∙ mul_assoc (t * t) (d * d) c

    right : (d l w c n : ℕ) → 4 * n * (l * l) ≡ w * c → w * (d * d * c) ≡ 4 * n * (d * d) * (l * l)
    right d l w c n f = ap (λ (z : ℕ). w * z) (mul_comm (d * d) c) ∙ sym (mul_assoc w c (d * d)) ∙ ap (λ (z : ℕ). z * (d * d)) (sym f) ∙ mul_right_comm (4 * n) (l * l) (d * d)

-- 4 * x, in units of 2 ^ -1074 squared
four_x : (n d v h : ℕ) → n * 4 ^ 600 ≡ v * 4 ^ (h + 36) * d → 4 * n * (2 ^ 1074 * 2 ^ 1074) ≡ v * 2 ^ 54 * (2 ^ (h + 484) * 2 ^ (h + 484)) * d
four_x n d v h e =
    ap (λ (z : ℕ). 4 * n * z) (sym (four_pow 1074) ∙ pow-add 4 600 474)
    ∙ ap (λ (z : ℕ). z * (4 ^ 600 * 4 ^ 474)) (mul_comm 4 n)
    ∙ mul-mul-mul_comm n 4 (4 ^ 600) (4 ^ 474)
    ∙ ap (λ (z : ℕ). z * (4 * 4 ^ 474)) e
    ∙ mul_right_comm (v * 4 ^ (h + 36)) d (4 * 4 ^ 474)
    ∙ ap (λ (z : ℕ). z * d)
    (mul_assoc v (4 ^ (h + 36)) (4 * 4 ^ 474)
    ∙ ap (λ (z : ℕ). v * z) (ap (λ (z : ℕ). 4 ^ (h + 36) * z) (sym (pow-add 4 1 474)) ∙ sym (pow-add 4 (h + 36) (1 + 474)) ∙ ap (λ (z : ℕ). 4 ^ z) (index h) ∙ pow-add 4 27 (h + 484) ∙ ap (λ (z : ℕ). 4 ^ 27 * z) (four_pow (h + 484)))
    ∙ sym (mul_assoc v (4 ^ 27) (2 ^ (h + 484) * 2 ^ (h + 484))))
  where
    index : (h : ℕ) → h + 36 + (1 + 474) ≡ 27 + (h + 484)
    index h = omega arith

-- the order of two values, in units
units_lt : (y r : Float) (a b l : ℕ) → 0 < l → HasValue y false a l → HasValue r false b l → T (lt y r) → a < b
units_lt y r a b l L v w t = lt_of_mul-lt-mul_right l (ltb→lt (a * l) (b * l) (subst T (lt_at y r a l b l L L v w) t))

pub root_nearest : (x : Float) → T (positive x) → T (fits binary64 x) → NearestRoot x (root_of x)
root_nearest x p g =
    let P = parts x p g in
    let v = P.0 in
    let h = P.1 in
    let d = whole_root 54 (v * 2 ^ 54) in
    let D = whole_root_lem 54 (v * 2 ^ 54) (under v P.3) in
    let k = 2 ^ (h + 484) in
    let e : root_of x ≡ root_scaled (v * 4 ^ (h + 36)) = root_is x (v * 4 ^ (h + 36)) p P.5 in
    let r = root_of x in
    let R : HasValue r false ((d + 1) / 2 * k) (2 ^ 1074) = subst (λ (z : Float). HasValue z false ((d + 1) / 2 * k) (2 ^ 1074)) (sym e) (scaled_val v h P.2 P.3 P.4) in
    let F = four_x (num x) (den x) v h P.5 in
    record {
      number = positive_of_value r ((d + 1) / 2 * k) (2 ^ 1074) R (mul-pos (half_pos d (r_ge v d D P.2)) (pow_pos (h + 484)));
      holds = subst (λ (z : Float). T (fits binary64 z)) (sym e) (scaled_fits (v * 4 ^ (h + 36)));
      below = λ y q f t.
          let Y = gridded y q f in
          cross_le (sum_num y r) (sum_den y r) (2 ^ 1074) (Y.0 + (d + 1) / 2 * k) (v * 2 ^ 54 * (k * k)) (den x) (num x) (pow_pos 1074) (sum_units y r Y.0 ((d + 1) / 2 * k) (2 ^ 1074) Y.1 R) F
          (sq_below (Y.0 + (d + 1) / 2 * k) d k (v * 2 ^ 54) (below_sum Y.0 d k (pow_pos (h + 484)) (r_ge v d D P.2) (Y.2 (h + 484)) (units_lt y r Y.0 ((d + 1) / 2 * k) (2 ^ 1074) (pow_pos 1074) Y.1 R t)) D.low);
      above = λ y q f t.
          let Y = gridded y q f in
          cross_lt (sum_num y r) (sum_den y r) (2 ^ 1074) (Y.0 + (d + 1) / 2 * k) (v * 2 ^ 54 * (k * k)) (den x) (num x) (pow_pos 1074) (mul-pos (den_pos y) (den_pos r)) (den_pos x) (sum_units y r Y.0 ((d + 1) / 2 * k) (2 ^ 1074) Y.1 R) F
          (sq_above (Y.0 + (d + 1) / 2 * k) d k (v * 2 ^ 54) (pow_pos (h + 484)) (above_sum Y.0 d k (pow_pos (h + 484)) (r_ge v d D P.2) (Y.2 (h + 484)) (units_lt r y ((d + 1) / 2 * k) Y.0 (2 ^ 1074) (pow_pos 1074) R Y.1 t)) D.high);
    }
  where
    under : (v : ℕ) → v < 2 ^ 54 → v * 2 ^ 54 < 4 ^ 54
    under v h = omega arith

    half_pos : (d : ℕ) → 2 ^ 53 ≤ d → 0 < (d + 1) / 2
    half_pos d h = omega arith

-- ---- no second value is nearest, so the law says which value the root is
sum_comm : (y r : Float) → sum_num y r ≡ sum_num r y
sum_comm y r = add_comm (num y * den r) (num r * den y)

never_both : (x r s : Float) → MiddleAtMost x r s → MiddleAbove x s r → ⊥
never_both x r s a b =
    not-le_of_lt b
    (subst (λ (z : ℕ). z * z * den x ≤ 4 * num x * (sum_den s r * sum_den s r)) (sum_comm r s) (subst (λ (z : ℕ). sum_num r s * sum_num r s * den x ≤ 4 * num x * (z * z)) (mul_comm (den r) (den s)) a))

ordered : (r s : Float) → T (positive r) → T (positive s) → num r * den s < num s * den r → T (lt r s)
ordered r s p q h = subst T (sym (lt_at r s (num r) (den r) (num s) (den s) (den_pos r) (den_pos s) (own_value r p) (own_value s q))) (lt→ltb (num r * den s) (num s * den r) h)

pub nearest_unique : (x r s : Float) → NearestRoot x r → NearestRoot x s → r ≡ s
nearest_unique x r s R S =
    unique binary64 r s false (num r) (den r) (den_pos r) R.holds S.holds (own_value r R.number)
    (rescale s false (num s) (den s) (num r) (den r) (den_pos s) (le_antisymm (at_most s r S R) (at_most r s R S)) (own_value s S.number))
  where
    at_most : (a b : Float) → NearestRoot x a → NearestRoot x b → num b * den a ≤ num a * den b
    at_most a b A B = le_of_suc-le-suc (lt_of_not-le (λ (g : suc (num a * den b) ≤ num b * den a).
        let t = ordered a b A.number B.number g in
        never_both x a b (B.below a A.number A.holds t) (A.above b B.number B.holds t)))
