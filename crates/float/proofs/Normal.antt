-- The leading digit of a significand brought to place 52 or 53 by the count of its leading zeros, so that the exponent is even. Assumes nothing.
use Rattle.std.proofs.Common.{◌≡◌, ℕ, zero, suc, ◌+◌, ◌-◌, ◌*◌, ◌/◌, ◌%◌, ◌^◌, ◌<◌, ◌≤◌, sym, ap, ◌∙◌, subst, le_trans, le_of_eq, lt_of_lt_of_le, mul-le-mul_right, mod-eq_of_lt, mul_assoc, mul-lt-mul_of_pos_right, lt_of_not-le, not-le_of_lt, arith, pow_pos, pow_mono, pow-add}
use lib.Count.{count_leading_zeros, leading_top}
use Rattle.float.proofs.Nearness.{four_pow}

pub record Norm (m z : ℕ) : Type 0 where
  pub low : 2 ^ 52 ≤ m * 2 ^ z
  pub high : m * 2 ^ z < 2 ^ 53
  pub shift : z ≤ 52

pub normal : (m : ℕ) → 0 < m → m < 2 ^ 53 → (11 ≤ count_leading_zeros 64 m) × Norm m (count_leading_zeros 64 m - 11)
normal m p h =
    let top = leading_top 64 m p (lt_of_lt_of_le h (pow_mono (le_lit))) in
    let j = top.0 in
    let j-lt : j < 53 = lt_of_not-le (λ (g : 53 ≤ j). not-le_of_lt (lt_of_lt_of_le h (pow_mono g)) top.2) in
    let z = count_leading_zeros 64 m - 11 in
    let e : z + j ≡ 52 = places (count_leading_zeros 64 m) j top.1 j-lt in (
      enough (count_leading_zeros 64 m) j top.1 j-lt,
      record {
        low = le_trans (le_of_eq (ap (λ (n : ℕ). 2 ^ n) (sym e ∙ swap z j) ∙ pow-add 2 j z)) (mul-le-mul_right (2 ^ z) top.2);
        high = lt_of_lt_of_le (mul-lt-mul_of_pos_right top.3 (pow_pos z)) (le_of_eq (sym (pow-add 2 (suc j) z) ∙ ap (λ (n : ℕ). 2 ^ n) (one_more z j e)));
        shift = most z j e;
      },
    )
  where
    le_lit : 53 ≤ 64
    le_lit = omega arith

    places : (l j : ℕ) → l + suc j ≡ 64 → j < 53 → l - 11 + j ≡ 52
    places l j e h = omega arith

    enough : (l j : ℕ) → l + suc j ≡ 64 → j < 53 → 11 ≤ l
    enough l j e h = omega arith

    swap : (z j : ℕ) → z + j ≡ j + z
    swap z j = omega arith

    one_more : (z j : ℕ) → z + j ≡ 52 → suc j + z ≡ 53
    one_more z j e = omega arith

    most : (z j : ℕ) → z + j ≡ 52 → z ≤ 52
    most z j e = omega arith

-- ---- the shift: by z, and by one more where d is 1
module _ (m z d : ℕ) (N : Norm m z) (h : d < 2) where
  shifted : m * 2 ^ (z + d) ≡ m * 2 ^ z * 2 ^ d
  shifted = ap (λ (n : ℕ). m * n) (pow-add 2 z d) ∙ sym (mul_assoc m (2 ^ z) (2 ^ d))

  shift_in : (2 ^ 52 ≤ m * 2 ^ (z + d)) × (m * 2 ^ (z + d) < 2 ^ 54)
  shift_in = subst (λ (n : ℕ). (2 ^ 52 ≤ n) × (n < 2 ^ 54)) (sym shifted) (go d h)
    where
      same : (n : ℕ) → 2 ^ 52 ≤ n → n < 2 ^ 53 → (2 ^ 52 ≤ n * 1) × (n * 1 < 2 ^ 54)
      same n l k = (omega arith, omega arith)

      twice : (n : ℕ) → 2 ^ 52 ≤ n → n < 2 ^ 53 → (2 ^ 52 ≤ n * 2) × (n * 2 < 2 ^ 54)
      twice n l k = (omega arith, omega arith)

      never : (d : ℕ) → suc (suc d) < 2 → ⊥
      never d h = omega arith

      go : (d : ℕ) → d < 2 → (2 ^ 52 ≤ m * 2 ^ z * 2 ^ d) × (m * 2 ^ z * 2 ^ d < 2 ^ 54)
      go zero h = same (m * 2 ^ z) N.low N.high
      go (suc zero) h = twice (m * 2 ^ z) N.low N.high
      go (suc (suc d)) h = absurd (never d h)

  pub shift_is : (m * 2 ^ (z + d)) % 2 ^ 64 ≡ m * 2 ^ (z + d)
  shift_is = mod-eq_of_lt (lt_of_lt_of_le shift_in.1 (pow_mono le_lit))
    where
      le_lit : 54 ≤ 64
      le_lit = omega arith

  pub shift_within : (2 ^ 52 ≤ (m * 2 ^ (z + d)) % 2 ^ 64) × ((m * 2 ^ (z + d)) % 2 ^ 64 < 2 ^ 54)
  shift_within = subst (λ (n : ℕ). (2 ^ 52 ≤ n) × (n < 2 ^ 54)) (sym shift_is) shift_in

-- ---- what is shifted, with the halved exponent
pub rescaled : (m s h q : ℕ) → s + 2 * h ≡ q + 54 → m * 2 ^ s * 4 ^ (h + 36) ≡ m * 2 ^ (q + 126)
rescaled m s h q e =
    mul_assoc m (2 ^ s) (4 ^ (h + 36))
    ∙ ap (λ (n : ℕ). m * n) (ap (λ (n : ℕ). 2 ^ s * n) (four_pow (h + 36) ∙ sym (pow-add 2 (h + 36) (h + 36))) ∙ sym (pow-add 2 s (h + 36 + (h + 36))) ∙ ap (λ (n : ℕ). 2 ^ n) (sums s h q e))
  where
    sums : (s h q : ℕ) → s + 2 * h ≡ q + 54 → s + (h + 36 + (h + 36)) ≡ q + 126
    sums s h q e = omega arith

pub even_sum : (z q : ℕ) → z ≤ 52 → (q + 54 - z) % 2 ≡ 0 → z + 2 * ((q + 54 - z) / 2) ≡ q + 54
even_sum z q h e = omega arith

pub odd_sum : (z q : ℕ) → z ≤ 52 → ((q + 54 - z) % 2 ≡ 0 → ⊥) → z + 1 + 2 * ((q + 54 - z) / 2) ≡ q + 54
odd_sum z q h e = omega arith

pub all_sum : (z q : ℕ) → z ≤ 52 → z + (q + 54 - z) % 2 + 2 * ((q + 54 - z) / 2) ≡ q + 54
all_sum z q h = omega arith

pub half_le : (z q : ℕ) → q < 2046 → (q + 54 - z) / 2 ≤ 1049
half_le z q h = omega arith
