-- `steps-law`: for a q from 0 up and below 2 ^ 51, `steps_of q` is q to the nearest whole number, a half up. Adding 2 ^ 52 and taking it off leaves the nearest whole number t,
-- a half to the even one, so that only a half that went down is to be put right. Assumes nothing.
use mathlib.Core.Path.{◌≡◌, refl, sym, ap, ◌∙◌, subst}
use Prim.Native.Nat.{ℕ, suc, ◌+◌, ◌-◌, ◌*◌, ◌/◌, ◌%◌, ◌^◌, ◌≤◌, ◌<◌, compare}
use native.Mathlib.Nat.{le_trans, le_of_eq, lt_of_lt_of_le, lt_of_le_of_lt, mul-one, mul-pos, zero-lt-suc, mul_comm, mul_assoc, mul_left_comm, mul_right_comm, mul-le-mul_right, mul-lt-mul_of_pos_right, div-lt_iff_lt-mul, le-div_iff_mul-le, div-add-mod', add-mul-div_right, add-mul, suc-mul, pow-suc, le_of_suc-le-suc, lt_of_not-le}
use native.Mathlib.Omega.{arith}
use mathlib.Core.Bool.{Bool, true, false, not, cond}
use lib.IntN.{ℤ, pos}
use lib.Dec.{T, ltb, ltb→lt, nltb→le, lit<, lit≤}
use lib.Pow.{pow_pos, pow-add, pow-lt, pow_mono}
use lib.Ieee.{Float, fin, Format, binary32, binary64, prec, emax, low, up, down, add, lt, round, of_bits}
use lib.Ieee.Fits.{nearest-le, down_pos, sub-fits}
use lib.Ieee.Nearest.{closest, closest_same, nearest-ge}
use lib.Ieee.Exact.{HasValue, round_exact}
use lib.Ieee.Scale.{overflow}
use Rattle.float.specs.Def.{round_of, whole_of}
use Rattle.float.proofs.Branches.{yes}
use Rattle.float.proofs.Fraction.{rescale, add_at, sub_at, lt_at}
use Rattle.float.proofs.Whole.{big+, one+, half+, near, whole_val, whole_is}
use Rattle.float.proofs.Nearness.{closest_low, to_grid}
use Rattle.cell_axis.specs.Image.{steps_of}

-- ---- a fraction from 2 ^ (prec - 1) up and below 2 ^ prec is rounded to the nearest whole number
room : (f : Format) → prec f + low f < low f + suc (emax f)
room f = swap (prec f) (low f) (suc (emax f)) (less f)
  where
    less : (f : Format) → prec f < suc (emax f)
    less binary32 = lit< tt
    less binary64 = lit< tt

    swap : (a b c : ℕ) → a < c → a + b < b + c
    swap a b c h = omega arith

nearest_whole : (f : Format) (a c : ℕ) → 0 < c → 2 ^ (prec f - 1) * c ≤ a → a < 2 ^ prec f * c → HasValue (round f false a c) false (closest a c) 1
nearest_whole f a c C lo hi =
    let L = 2 ^ low f in
    let P : 0 < L = pow_pos (low f) in
    let w = closest (a * L) (c * L) in
    let same : w ≡ closest a c = closest_same (a * L) (c * L) a c (mul-pos C P) C (mul_assoc a L c ∙ ap (λ (z : ℕ). a * z) (mul_comm L c)) in
    let most : w ≤ 2 ^ prec f = le_trans (le_of_eq same) (le_trans (nearest-le (a / c) (compare (a % c * 2) c)) ((div-lt_iff_lt-mul C).1 hi)) in
    let fine : w * L < overflow f = lt_of_le_of_lt (mul-le-mul_right L most) (subst (λ (x : ℕ). x < overflow f) (pow-add 2 (prec f) (low f)) (pow-lt (room f))) in
    rescale (round f false a c) false (w * L) L (closest a c) 1 P (ap (λ (z : ℕ). z * L) (sym same) ∙ sym (mul-one (w * L)))
    (to_grid f a c (low f) C
    (le_trans (le_of_eq (mul_right_comm (2 ^ (prec f - 1)) L c)) (mul-le-mul_right L lo))
    (lt_of_lt_of_le (mul-lt-mul_of_pos_right hi P) (le_of_eq (mul_right_comm (2 ^ prec f) c L)))
    fine)

-- .. which is not more than a half above it
half_above : (a c : ℕ) → 0 < c → 2 * (closest a c * c) ≤ 2 * a + c
half_above a c C = go (ltb (a % c * 2) c) (ltb→lt (a % c * 2) c) (nltb→le (a % c * 2) c)
  where
    down_case : (q r a c k : ℕ) → q + r ≡ a → k ≡ q → 2 * k ≤ 2 * a + c
    down_case q r a c k e h = omega arith

    up_case : (q r a c k : ℕ) → q + r ≡ a → k ≤ q + c → c ≤ r * 2 → 2 * k ≤ 2 * a + c
    up_case q r a c k e h g = omega arith

    go : (b : Bool) → (T b → a % c * 2 < c) → (T (not b) → c ≤ a % c * 2) → 2 * (closest a c * c) ≤ 2 * a + c
    go true f g =
        down_case (a / c * c) (a % c) a c (closest a c * c) (div-add-mod' a c) (ap (λ (z : ℕ). z * c) (closest_low a c (a / c) (a % c) (sym (div-add-mod' a c)) (f tt)))
    go false f g =
        up_case (a / c * c) (a % c) a c (closest a c * c) (div-add-mod' a c)
        (le_trans (mul-le-mul_right c (nearest-le (a / c) (compare (a % c * 2) c))) (le_of_eq (suc-mul (a / c) c))) (g tt)

-- ---- t, for q = a / c
pub record Near (q : Float) (a c : ℕ) : Type 0 where
  pub t : ℕ
  pub value : HasValue (near q) false t 1
  pub low : a < suc t * c
  pub high : 2 * (t * c) ≤ 2 * a + c
  pub small : t ≤ 2 ^ 51

module _ (q : Float) (a c : ℕ) (C : 0 < c) (v : HasValue q false a c) (h : a < 2 ^ 51 * c) where
  abbrev A : ℕ
  A = a + 2 ^ 52 * c

  sum_is : add binary64 q big+ ≡ round binary64 false A c
  sum_is =
      add_at binary64 q big+ a c (2 ^ 52) 1 C (zero-lt-suc 0) v (refl, refl)
      ∙ ap (λ (n : ℕ). round binary64 false n (c * 1)) (ap (λ (z : ℕ). z + 2 ^ 52 * c) (mul-one a))
      ∙ ap (λ (n : ℕ). round binary64 false A n) (mul-one c)

  sum_value : HasValue (add binary64 q big+) false (closest A c) 1
  sum_value = subst (λ (z : Float). HasValue z false (closest A c) 1) (sym sum_is) (nearest_whole binary64 A c C (more a (2 ^ 52 * c)) (less a (2 ^ 51 * c) (2 ^ 52 * c) (2 ^ 53 * c) h (twice c) (twice' c)))
    where
      more : (a k : ℕ) → k ≤ a + k
      more a k = omega arith

      less : (a i j k : ℕ) → a < i → j ≡ 2 * i → k ≡ 2 * j → a + j < k
      less a i j k h e g = omega arith

      twice : (c : ℕ) → 2 ^ 52 * c ≡ 2 * (2 ^ 51 * c)
      twice c = omega arith

      twice' : (c : ℕ) → 2 ^ 53 * c ≡ 2 * (2 ^ 52 * c)
      twice' c = omega arith

  near_at : Near q a c
  near_at =
      let w = closest A c in
      let some : a / c + 2 ^ 52 ≤ w = subst (λ (z : ℕ). z ≤ w) (add-mul-div_right a (2 ^ 52) C) (nearest-ge (A / c) (compare (A % c * 2) c)) in
      let t = w - 2 ^ 52 in
      let back : w ≡ t + 2 ^ 52 = rest (a / c) w some in
      let high : 2 * (t * c) ≤ 2 * a + c = less a c (2 ^ 52 * c) (t * c) (w * c) (ap (λ (z : ℕ). z * c) back ∙ add-mul t (2 ^ 52) c) (half_above A c C) in
      let small : t ≤ 2 ^ 51 = le_of_suc-le-suc (lt_of_not-le (λ (g : suc (2 ^ 51) ≤ t). no_more a c (2 ^ 51 * c) (t * c) h high (le_trans (le_of_eq (sym (suc-mul (2 ^ 51) c))) (mul-le-mul_right c g)))) in
      record {
        t = t;
        value =
            subst (λ (z : Float). HasValue z false t 1)
            (sym (sub_at binary64 (add binary64 q big+) big+ w 1 (2 ^ 52) 1 (zero-lt-suc 0) (zero-lt-suc 0) sum_value (refl, refl) (enough (a / c) w some) ∙ ap (λ (n : ℕ). round binary64 false n 1) (ones w)))
            (whole_val t (le_trans small (lit≤ tt)));
        low = (div-lt_iff_lt-mul C).0 (next (a / c) w some);
        high = high;
        small = small;
      }
    where
      rest : (k w : ℕ) → k + 2 ^ 52 ≤ w → w ≡ w - 2 ^ 52 + 2 ^ 52
      rest k w h = omega arith

      enough : (k w : ℕ) → k + 2 ^ 52 ≤ w → 2 ^ 52 * 1 ≤ w * 1
      enough k w h = omega arith

      ones : (w : ℕ) → w * 1 - 2 ^ 52 * 1 ≡ w - 2 ^ 52
      ones w = omega arith

      next : (k w : ℕ) → k + 2 ^ 52 ≤ w → k < suc (w - 2 ^ 52)
      next k w h = omega arith

      less : (a c b t w : ℕ) → w ≡ t + b → 2 * w ≤ 2 * (a + b) + c → 2 * t ≤ 2 * a + c
      less a c b t w e h = omega arith

      no_more : (a c b t : ℕ) → a < b → 2 * t ≤ 2 * a + c → b + c ≤ t → ⊥
      no_more a c b t h g k = omega arith

  -- ---- t and a half, exactly
  half_value : HasValue (add binary64 (near q) half+) false (2 * near_at.t + 1) 2
  half_value =
      let t = near_at.t in
      subst (λ (z : Float). HasValue z false (2 * t + 1) 2)
      (sym (add_at binary64 (near q) half+ t 1 1 2 (zero-lt-suc 0) (zero-lt-suc 1) near_at.value (refl, refl) ∙ ap (λ (n : ℕ). round binary64 false n 2) (flat t)))
      (round_exact binary64 false (2 * t + 1) 2 (2 * t + 1) 1073 (zero-lt-suc 1) (short t near_at.small)
      (lt_of_lt_of_le (mul-lt-mul_of_pos_right (short t near_at.small) (pow_pos 1073)) (le_trans (le_of_eq (sym (pow-add 2 53 1073))) (pow_mono {i = 1126} {j = 2098} (lit≤ tt))))
      (ap (λ (z : ℕ). (2 * t + 1) * z) (pow-suc 2 1073) ∙ sym (mul_assoc (2 * t + 1) (2 ^ 1073) 2)))
    where
      flat : (t : ℕ) → t * 2 + 1 * 1 ≡ 2 * t + 1
      flat t = omega arith

      short : (t : ℕ) → t ≤ 2 ^ 51 → 2 * t + 1 < 2 ^ 53
      short t h = omega arith

  half_test : lt q (add binary64 (near q) half+) ≡ ltb (a * 2) ((2 * near_at.t + 1) * c)
  half_test = lt_at q (add binary64 (near q) half+) a c (2 * near_at.t + 1) 2 C (zero-lt-suc 1) v half_value

  -- ---- both ways
  next_value : add binary64 (near q) one+ ≡ whole_of false (suc near_at.t)
  next_value =
      add_at binary64 (near q) one+ near_at.t 1 1 1 (zero-lt-suc 0) (zero-lt-suc 0) near_at.value (refl, refl) ∙ ap (λ (n : ℕ). round binary64 false n 1) (ones near_at.t)
    where
      ones : (t : ℕ) → t * 1 + 1 * 1 ≡ suc t
      ones t = omega arith

  pub by_steps : cond (lt q (add binary64 (near q) half+)) (near q) (add binary64 (near q) one+) ≡ whole_of false ((2 * a + c) / (2 * c))
  by_steps =
      let t = near_at.t in
      let k = t * c in
      let odd : (2 * t + 1) * c ≡ 2 * k + c = odd_times t c in
      go (ltb (a * 2) ((2 * t + 1) * c)) half_test
      (λ y. sym (only ((2 * a + c) / (2 * c)) t
      ((le-div_iff_mul-le twice).1 (le_trans (le_of_eq (mul_left_comm t 2 c)) near_at.high))
      ((div-lt_iff_lt-mul twice).1 (lt_of_lt_of_le (below a c k ((2 * t + 1) * c) odd (ltb→lt (a * 2) ((2 * t + 1) * c) y)) (le_of_eq (sym (next_times t c)))))))
      (λ n. sym (only ((2 * a + c) / (2 * c)) (suc t)
      ((le-div_iff_mul-le twice).1 (le_trans (le_of_eq (next_times t c)) (above a c k ((2 * t + 1) * c) odd (nltb→le (a * 2) ((2 * t + 1) * c) n))))
      ((div-lt_iff_lt-mul twice).1 (lt_of_lt_of_le (under a c k (suc t * c) (suc-mul t c) near_at.low) (le_of_eq (sym (suc-mul (suc t) (2 * c) ∙ ap (λ (z : ℕ). z + 2 * c) (next_times t c))))))))
    where
      twice : 0 < 2 * c
      twice = mul-pos (zero-lt-suc 1) C

      odd_times : (t c : ℕ) → (2 * t + 1) * c ≡ 2 * (t * c) + c
      odd_times t c = add-mul (2 * t) 1 c ∙ ap (λ (z : ℕ). z + 1 * c) (mul_assoc 2 t c) ∙ one (2 * (t * c)) c
        where
          one : (k c : ℕ) → k + 1 * c ≡ k + c
          one k c = omega arith

      next_times : (t c : ℕ) → suc t * (2 * c) ≡ 2 * (t * c) + 2 * c
      next_times t c = suc-mul t (2 * c) ∙ ap (λ (z : ℕ). z + 2 * c) (mul_left_comm t 2 c)

      below : (a c k m : ℕ) → m ≡ 2 * k + c → a * 2 < m → 2 * a + c < 2 * k + 2 * c
      below a c k m e h = omega arith

      above : (a c k m : ℕ) → m ≡ 2 * k + c → m ≤ a * 2 → 2 * k + 2 * c ≤ 2 * a + c
      above a c k m e h = omega arith

      under : (a c k m : ℕ) → m ≡ k + c → a < m → 2 * a + c < 2 * k + 2 * c + 2 * c
      under a c k m e h = omega arith

      only : (q t : ℕ) → t ≤ q → q < suc t → q ≡ t
      only q t h k = omega arith

      go : (b : Bool) → lt q (add binary64 (near q) half+) ≡ b → (T b → near_at.t ≡ (2 * a + c) / (2 * c)) → (T (not b) → suc near_at.t ≡ (2 * a + c) / (2 * c))
          → cond (lt q (add binary64 (near q) half+)) (near q) (add binary64 (near q) one+) ≡ whole_of false ((2 * a + c) / (2 * c))
      go true e f g = rw e (whole_is (near q) near_at.t (sub-fits binary64 (add binary64 q big+) big+) near_at.value ∙ ap (λ (n : ℕ). whole_of false n) (f tt))
      go false e f g = rw e (next_value ∙ ap (λ (n : ℕ). whole_of false n) (g tt))

pub steps_law : (m : ℕ) (e : ℤ) → lt (fin false m e) (fin false 1 (pos 51)) ≡ true → steps_of (fin false m e) ≡ round_of (fin false m e)
unfolding steps_of round_of of_bits
steps_law m e h = by_steps (fin false m e) (m * up e) (down e) (down_pos e) (refl, refl) part_lt
  where
    part_lt : m * up e < 2 ^ 51 * down e
    part_lt = subst (λ (z : ℕ). z < 2 ^ 51 * down e) (mul-one (m * up e)) (ltb→lt (m * up e * 1) (2 ^ 51 * down e) (yes (sym (lt_at (fin false m e) (fin false 1 (pos 51)) (m * up e) (down e) (2 ^ 51) 1 (down_pos e) (zero-lt-suc 0) (refl, refl) (refl, refl)) ∙ h)))
