-- Two values of the format, P / Q their exact quotient. Where it is below a half it is at most the value below a half, for the digits of both are few
-- (`few-digits`), so the rounded quotient is below a half too (`to-zero`). From a half to 1 it rounds to a value there (`to_one`). Assumes nothing.
use mathlib.Core.Path.{◌≡◌, refl, sym, ap, ◌∙◌, subst}
use Prim.Native.Nat.{ℕ, suc, ◌+◌, ◌-◌, ◌*◌, ◌/◌, ◌^◌, ◌≤◌, ◌<◌}
use native.Mathlib.Nat.{zero-lt-suc, le_trans, le_of_eq, mul_comm, mul_assoc, mul_left_comm, mul_right_comm, mul-le-mul_right, lt_of_mul-lt-mul_right, le_of_lt, pow-suc, div-lt_iff_lt-mul, le-div_iff_mul-le}
use native.Mathlib.Omega.{arith}
use mathlib.Core.Bool.{Bool, true, false, not, ◌&&◌, ◌||◌, true≢false}
use lib.IntN.{ℤ, pos, negsuc}
use lib.Dec.{T, ltb, leb, eqb, ltb→lt, eqb→eq, leb→le, nleb→lt}
use lib.Pow.{pow_pos, pow-add}
use lib.Ieee.{Float, nan, inf, fin, binary64, up, down, neg, lt, le, eq, round}
use lib.Ieee.Fits.{down_pos}
use lib.Ieee.Exact.{HasValue}
use lib.Ieee.Order.{round_mono}
use lib.Ieee.Scale.{finite, grid, round_val, round_under}
use Rattle.float.specs.Def.{round_of, whole_of}
use Rattle.float.proofs.Branches.{zero+}
use Rattle.float.proofs.Fraction.{round_neg}
use Rattle.float.proofs.Whole.{one+, half+}

-- ---- powers of two
pub up_pow : (e : ℤ) → (i : ℕ) × (up e ≡ 2 ^ i)
up_pow (pos k) = (k, refl)
up_pow (negsuc k) = (0, refl)

pub down_pow : (e : ℤ) → (i : ℕ) × (down e ≡ 2 ^ i)
down_pow (pos k) = (0, refl)
down_pow (negsuc k) = (suc k, refl)

back : (a l : ℕ) → l ≤ a → a ≡ l + (a - l)
back a l h = omega arith

-- ---- m * 2 ^ i below n * 2 ^ j, with m and n of 53 digits: below by more than one part in 2 ^ 53
low_side : (k n : ℕ) → k < n → n < 2 ^ 53 → k * 2 ^ 53 ≤ (2 ^ 53 - 1) * n
low_side k n h b = omega arith

high_side : (m k : ℕ) → m < k → m < 2 ^ 53 → m * 2 ^ 53 ≤ (2 ^ 53 - 1) * k
high_side m k h b = omega arith

spread : (m n i j : ℕ) → m < 2 ^ 53 → n < 2 ^ 53 → m * 2 ^ i < n * 2 ^ j → m * 2 ^ i * 2 ^ 53 ≤ (2 ^ 53 - 1) * (n * 2 ^ j)
spread m n i j a b h = go (leb i j) (leb→le i j) (λ t. le_of_lt (nleb→lt i j t))
  where
    go : (b : Bool) → (T b → i ≤ j) → (T (not b) → j ≤ i) → m * 2 ^ i * 2 ^ 53 ≤ (2 ^ 53 - 1) * (n * 2 ^ j)
    go true f f' =
        let g = f tt in
        let t = 2 ^ (j - i) in
        let e : n * 2 ^ j ≡ n * t * 2 ^ i = ap (λ (z : ℕ). n * 2 ^ z) (back j i g) ∙ ap (λ (z : ℕ). n * z) (pow-add 2 i (j - i) ∙ mul_comm (2 ^ i) t) ∙ sym (mul_assoc n t (2 ^ i)) in
        let c : m < n * t = lt_of_mul-lt-mul_right (2 ^ i) (subst (λ (z : ℕ). m * 2 ^ i < z) e h) in
        subst (λ (z : ℕ). m * 2 ^ i * 2 ^ 53 ≤ (2 ^ 53 - 1) * z) (sym e)
        (le_trans (le_of_eq (mul_right_comm m (2 ^ i) (2 ^ 53))) (le_trans (mul-le-mul_right (2 ^ i) (high_side m (n * t) c a)) (le_of_eq (mul_assoc (2 ^ 53 - 1) (n * t) (2 ^ i)))))
    go false f f' =
        let g = f' tt in
        let t = 2 ^ (i - j) in
        let e : m * 2 ^ i ≡ m * t * 2 ^ j = ap (λ (z : ℕ). m * 2 ^ z) (back i j g) ∙ ap (λ (z : ℕ). m * z) (pow-add 2 j (i - j) ∙ mul_comm (2 ^ j) t) ∙ sym (mul_assoc m t (2 ^ j)) in
        let c : m * t < n = lt_of_mul-lt-mul_right (2 ^ j) (subst (λ (z : ℕ). z < n * 2 ^ j) e h) in
        subst (λ (z : ℕ). z * 2 ^ 53 ≤ (2 ^ 53 - 1) * (n * 2 ^ j)) (sym e)
        (le_trans (le_of_eq (mul_right_comm (m * t) (2 ^ j) (2 ^ 53))) (le_trans (mul-le-mul_right (2 ^ j) (low_side (m * t) n c b)) (le_of_eq (mul_assoc (2 ^ 53 - 1) n (2 ^ j)))))

-- the same for two values' cross products, the first doubled
pub few_digits : (m n : ℕ) (e d : ℤ) → m < 2 ^ 53 → n < 2 ^ 53 → 2 * (m * up e * down d) < n * up d * down e → m * up e * down d * 2 ^ 54 ≤ (2 ^ 53 - 1) * (n * up d * down e)
few_digits m n e d a b h =
    let i = up_pow e in
    let j = down_pow d in
    let k = up_pow d in
    let l = down_pow e in
    let p : 2 * (m * up e * down d) ≡ m * 2 ^ suc (i.0 + j.0) = ap (λ (z : ℕ). 2 * (m * z * down d)) i.1 ∙ ap (λ (z : ℕ). 2 * (m * 2 ^ i.0 * z)) j.1 ∙ join m i.0 j.0 in
    let q : n * up d * down e ≡ n * 2 ^ (k.0 + l.0) = ap (λ (z : ℕ). n * z * down e) k.1 ∙ ap (λ (z : ℕ). n * 2 ^ k.0 * z) l.1 ∙ join₂ n k.0 l.0 in
    le_trans (le_of_eq (twice (m * up e * down d)))
    (subst (λ (z : ℕ). z * 2 ^ 53 ≤ (2 ^ 53 - 1) * (n * up d * down e)) (sym p)
    (subst (λ (z : ℕ). m * 2 ^ suc (i.0 + j.0) * 2 ^ 53 ≤ (2 ^ 53 - 1) * z) (sym q)
    (spread m n (suc (i.0 + j.0)) (k.0 + l.0) a b
    (subst (λ (z : ℕ). z < n * 2 ^ (k.0 + l.0)) p (subst (λ (z : ℕ). 2 * (m * up e * down d) < z) q h)))))
  where
    twice : (a : ℕ) → a * 2 ^ 54 ≡ 2 * a * 2 ^ 53
    twice a = omega arith

    join₂ : (n k l : ℕ) → n * 2 ^ k * 2 ^ l ≡ n * 2 ^ (k + l)
    join₂ n k l = mul_assoc n (2 ^ k) (2 ^ l) ∙ ap (λ (z : ℕ). n * z) (sym (pow-add 2 k l))

    double : (n x : ℕ) → 2 * (n * x) ≡ n * (x * 2)
    double n x = simp (mul_assoc, mul_comm, mul_left_comm)

    join : (m i j : ℕ) → 2 * (m * 2 ^ i * 2 ^ j) ≡ m * 2 ^ suc (i + j)
    join m i j = ap (λ (z : ℕ). 2 * z) (join₂ m i j) ∙ double m (2 ^ (i + j)) ∙ ap (λ (z : ℕ). m * z) (sym (pow-suc 2 (i + j)))

-- ---- the rounded quotient is a value that is not negative
pub round_ends : (round binary64 false 0 1 ≡ zero+) × (round binary64 false 1 1 ≡ one+) × (round binary64 false 1 2 ≡ half+) × (round binary64 false (2 ^ 53 - 1) (2 ^ 54) ≡ fin false (2 ^ 53 - 1) (negsuc 53))
unfolding round
round_ends = (refl, refl, refl, refl)

-- q is fin false m e, for some m and e
pub record Plain (q : Float) : Type 0 where
  pub m : ℕ
  pub e : ℤ
  pub is : q ≡ fin false m e

plain : (q : Float) → (T (finite q) → (a : ℕ) × (c : ℕ) × HasValue q false a c) → T (le zero+ q) → T (le q one+) → Plain q
unfolding le lt eq
plain nan v a b = absurd a
plain (inf true) v a b = absurd a
plain (inf false) v a b = absurd b
plain (fin true m e) v a b = absurd (true≢false (v tt).2.0)
plain (fin false m e) v a b = record { m = m; e = e; is = refl }

pub quotient_plain : (P Q : ℕ) → 0 < Q → P ≤ Q → Plain (round binary64 false P Q)
quotient_plain P Q q h =
    plain (round binary64 false P Q) (λ t. (grid binary64 P Q, 2 ^ 1074, round_val binary64 P Q (round_under binary64 P Q t)))
    (subst (λ (z : Float). T (le z (round binary64 false P Q))) round_ends.0 (round_mono binary64 0 1 P Q (zero-lt-suc 0) q (none P Q)))
    (subst (λ (z : Float). T (le (round binary64 false P Q) z)) round_ends.1 (round_mono binary64 P Q 1 1 q (zero-lt-suc 0) (same P Q h)))
  where
    none : (P Q : ℕ) → 0 * Q ≤ P * 1
    none P Q = omega arith

    same : (P Q : ℕ) → P ≤ Q → P * 1 ≤ 1 * Q
    same P Q h = omega arith

-- ---- the order of two such values, as numbers
le_cross : (m n : ℕ) (e d : ℤ) → T (le (fin false m e) (fin false n d)) → m * up e * down d ≤ n * up d * down e
unfolding le lt eq
le_cross m n e d t = go (ltb (m * up e * down d) (n * up d * down e)) (eqb (m * up e * down d) (n * up d * down e)) (ltb→lt (m * up e * down d) (n * up d * down e)) (eqb→eq (m * up e * down d) (n * up d * down e)) t
  where
    less : (a b : ℕ) → a < b → a ≤ b
    less a b h = omega arith

    go : (x y : Bool) → (T x → m * up e * down d < n * up d * down e) → (T y → m * up e * down d ≡ n * up d * down e) → T (x || (y && true)) → m * up e * down d ≤ n * up d * down e
    go true y f g t = less (m * up e * down d) (n * up d * down e) (f tt)
    go false true f g t = le_of_eq (g tt)
    go false false f g t = absurd t

-- ---- rounded to a whole number
round_fin : (m : ℕ) (e : ℤ) → round_of (fin false m e) ≡ whole_of false ((2 * (m * up e) + down e) / (2 * down e))
unfolding round_of
round_fin m e = refl

quot_zero : (u d : ℕ) → 0 < d → u * 2 ^ 54 ≤ (2 ^ 53 - 1) * 1 * d → (2 * u + d) / (2 * d) ≡ 0
quot_zero u d p h = none ((2 * u + d) / (2 * d)) ((div-lt_iff_lt-mul (twice d p)).1 (small u d p h))
  where
    twice : (d : ℕ) → 0 < d → 0 < 2 * d
    twice d p = omega arith

    small : (u d : ℕ) → 0 < d → u * 2 ^ 54 ≤ (2 ^ 53 - 1) * 1 * d → 2 * u + d < 1 * (2 * d)
    small u d p h = omega arith

    none : (q : ℕ) → q < 1 → q ≡ 0
    none q h = omega arith

quot_one : (u d : ℕ) → 0 < d → 1 * 1 * d ≤ u * 2 ^ 1 → u * 1 ≤ 1 * 1 * d → (2 * u + d) / (2 * d) ≡ 1
quot_one u d p h g = only ((2 * u + d) / (2 * d)) ((le-div_iff_mul-le (twice d p)).1 (above u d h)) ((div-lt_iff_lt-mul (twice d p)).1 (under u d p g))
  where
    twice : (d : ℕ) → 0 < d → 0 < 2 * d
    twice d p = omega arith

    above : (u d : ℕ) → 1 * 1 * d ≤ u * 2 ^ 1 → 1 * (2 * d) ≤ 2 * u + d
    above u d h = omega arith

    under : (u d : ℕ) → 0 < d → u * 1 ≤ 1 * 1 * d → 2 * u + d < 2 * (2 * d)
    under u d p h = omega arith

    only : (q : ℕ) → 1 ≤ q → q < 2 → q ≡ 1
    only q a b = omega arith

pub to_zero : (P Q : ℕ) → 0 < Q → P * 2 ^ 54 ≤ (2 ^ 53 - 1) * Q → round_of (round binary64 false P Q) ≡ zero+
to_zero P Q q h =
    let s = quotient_plain P Q q (less P Q h) in
    let b : T (le (fin false s.m s.e) (fin false (2 ^ 53 - 1) (negsuc 53))) =
    subst (λ (z : Float). T (le z (fin false (2 ^ 53 - 1) (negsuc 53)))) s.is (subst (λ (z : Float). T (le (round binary64 false P Q) z)) round_ends.3 (round_mono binary64 P Q (2 ^ 53 - 1) (2 ^ 54) q (pow_pos 54) h)) in
    ap round_of s.is ∙ round_fin s.m s.e
    ∙ ap (λ (z : ℕ). whole_of false z) (quot_zero (s.m * up s.e) (down s.e) (down_pos s.e) (le_cross s.m (2 ^ 53 - 1) s.e (negsuc 53) b))
    ∙ round_ends.0
  where
    less : (P Q : ℕ) → P * 2 ^ 54 ≤ (2 ^ 53 - 1) * Q → P ≤ Q
    less P Q h = omega arith

pub to_one : (P Q : ℕ) → 0 < Q → Q ≤ 2 * P → P ≤ Q → round_of (round binary64 false P Q) ≡ one+
to_one P Q q h g =
    let s = quotient_plain P Q q g in
    let r = round binary64 false P Q in
    let a : T (le half+ (fin false s.m s.e)) = subst (λ (z : Float). T (le half+ z)) s.is (subst (λ (z : Float). T (le z r)) round_ends.2 (round_mono binary64 1 2 P Q (zero-lt-suc 1) q (half P Q h))) in
    let b : T (le (fin false s.m s.e) one+) = subst (λ (z : Float). T (le z one+)) s.is (subst (λ (z : Float). T (le r z)) round_ends.1 (round_mono binary64 P Q 1 1 q (zero-lt-suc 0) (same P Q g))) in
    ap round_of s.is ∙ round_fin s.m s.e
    ∙ ap (λ (z : ℕ). whole_of false z) (quot_one (s.m * up s.e) (down s.e) (down_pos s.e) (le_cross 1 s.m (negsuc 0) s.e a) (le_cross s.m 1 s.e (pos 0) b))
    ∙ round_ends.1
  where
    half : (P Q : ℕ) → Q ≤ 2 * P → 1 * Q ≤ P * 2
    half P Q h = omega arith

    same : (P Q : ℕ) → P ≤ Q → P * 1 ≤ 1 * Q
    same P Q h = omega arith

-- ---- with a sign
neg_fin : (m : ℕ) (e : ℤ) → round_of (neg (fin false m e)) ≡ neg (round_of (fin false m e))
unfolding round_of neg
neg_fin m e = sym (round_neg binary64 ((2 * (m * up e) + down e) / (2 * down e)) 1)

pub through_neg : (q : Float) → Plain q → round_of (neg q) ≡ neg (round_of q)
through_neg q s = ap (λ (z : Float). round_of (neg z)) s.is ∙ neg_fin s.m s.e ∙ ap (λ (z : Float). neg (round_of z)) (sym s.is)

neg_round : (P Q n : ℕ) → 0 < Q → P ≤ Q → round_of (round binary64 false P Q) ≡ fin false n (pos 0) → round_of (round binary64 true P Q) ≡ fin true n (pos 0)
unfolding neg
neg_round P Q n q h r = ap round_of (sym (round_neg binary64 P Q)) ∙ through_neg (round binary64 false P Q) (quotient_plain P Q q h) ∙ ap neg r

pub signed_quotient : (s : Bool) (P Q n : ℕ) → 0 < Q → P ≤ Q → round_of (round binary64 false P Q) ≡ fin false n (pos 0) → round_of (round binary64 s P Q) ≡ fin s n (pos 0)
signed_quotient false P Q n q h r = r
signed_quotient true P Q n q h r = neg_round P Q n q h r
