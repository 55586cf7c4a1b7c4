-- The root of v * 4 ^ (h + 36) / 4 ^ 600, for a v from 2 ^ 52 up and below 2 ^ 54, from the 54 digits of the whole root of v * 2 ^ 54. Assumes nothing.
use Rattle.std.proofs.Common.{◌≡◌, ℕ, zero, suc, ◌+◌, ◌-◌, ◌*◌, ◌/◌, ◌%◌, ◌^◌, ◌<◌, ◌≤◌, Bool, true, false, cond, T, eqb, ◌⊎◌, sym, refl, ap, ◌∙◌, subst, inl, inr, zero-le, le_trans, le_of_eq, le_refl, lt_of_lt_of_le, le-add_right, lt_of_le_of_lt, add-le-add, mul-le-mul_right, mod-lt, zero-lt-suc, mul_assoc, mul_comm, div-lt_iff_lt-mul, add-mul, mul-le-mul, mul-lt-mul_of_pos_right, mul-pos, one-mul, pow-suc, le-div_iff_mul-le, mul-one, mul-add, mul_left_comm, arith, lit≤, le→leb, eqb→eq, leb→le, pow_pos, pow_mono, pow-add}
use Prim.Native.Nat.{compare, Ordering}
use native.Mathlib.Nat.{mul-mul-mul_comm, eq_of_mul-eq-mul_right}
use lib.Dec.{is_le, compare_is_eq}
use lib.Arith.{digits_div, digits_mod}
use lib.Pow.{pow-lt}
use lib.Ieee.{Format, binary64, prec, low, size, nearest, round}
use lib.Ieee.Nearest.{closest, closest_same}
use lib.Ieee.Exact.{HasValue}
use lib.Ieee.Order.{drop}
use lib.Ieee.Scale.{grid, overflow, round_val}
use Rattle.float.specs.Def.{whole_root, root_scaled}
use Rattle.float.proofs.Whole.{size_is, pred, shift, take_off}
use Rattle.float.proofs.WholeRoots.{IsRoot, whole_root_lem, sq_lt_back, sq_twice}

-- ---- `compare`
pub cmp_lt : (a b : ℕ) → a < b → compare a b ≡ Ordering.lt
cmp_lt a b h = go (compare a b) (le→leb a b (weak a b h)) (λ t. never a b h (eqb→eq a b t))
  where
    weak : (a b : ℕ) → a < b → a ≤ b
    weak a b h = omega arith

    never : (a b : ℕ) → a < b → a ≡ b → ⊥
    never a b h e = omega arith

    go : (o : Ordering) → T (is_le o) → (T (compare_is_eq o) → ⊥) → o ≡ Ordering.lt
    go Ordering.lt l e = refl
    go Ordering.eq l e = absurd (e tt)
    go Ordering.gt l e = absurd l

pub cmp_gt : (a b : ℕ) → b < a → compare a b ≡ Ordering.gt
cmp_gt a b h = go (compare a b) (λ t. never a b h (leb→le a b t))
  where
    never : (a b : ℕ) → b < a → a ≤ b → ⊥
    never a b h e = omega arith

    go : (o : Ordering) → (T (is_le o) → ⊥) → o ≡ Ordering.gt
    go Ordering.lt l = absurd (l tt)
    go Ordering.eq l = absurd (l tt)
    go Ordering.gt l = refl

-- ---- the nearest whole number, by the remainder
half_lt : (R D : ℕ) → R * 2 < D → R < D
half_lt R D h = omega arith

pub closest_low : (N D s R : ℕ) → N ≡ s * D + R → R * 2 < D → closest N D ≡ s
closest_low N D s R e h =
    ap (λ (z : ℕ). closest z D) e
    ∙ ap (λ (z : ℕ). nearest z (compare ((s * D + R) % D * 2) D)) (digits_div s (half_lt R D h))
    ∙ ap (λ (z : ℕ). nearest s (compare (z * 2) D)) (digits_mod s (half_lt R D h))
    ∙ ap (λ (o : Ordering). nearest s o) (cmp_lt (R * 2) D h)

pub closest_high : (N D s R : ℕ) → N ≡ s * D + R → R < D → D < R * 2 → closest N D ≡ suc s
closest_high N D s R e l h =
    ap (λ (z : ℕ). closest z D) e
    ∙ ap (λ (z : ℕ). nearest z (compare ((s * D + R) % D * 2) D)) (digits_div s l)
    ∙ ap (λ (z : ℕ). nearest s (compare (z * 2) D)) (digits_mod s l)
    ∙ ap (λ (o : Ordering). nearest s o) (cmp_gt (R * 2) D h)

-- ---- `round` at a fraction whose unit is known: a / c has the leading digit of its whole part, in units, at place prec - 1 + k
pub to_grid : (f : Format) (a c k : ℕ) → 0 < c → 2 ^ (prec f - 1) * 2 ^ k * c ≤ a * 2 ^ low f → a * 2 ^ low f < 2 ^ prec f * 2 ^ k * c
    → closest (a * 2 ^ low f) (c * 2 ^ k) * 2 ^ k < overflow f
    → HasValue (round f false a c) false (closest (a * 2 ^ low f) (c * 2 ^ k) * 2 ^ k) (2 ^ low f)
to_grid f a c k C lo hi fine =
    let n = a * 2 ^ low f in
    let lo' : 2 ^ (prec f - 1 + k) ≤ n / c = (le-div_iff_mul-le C).1 (subst (λ (z : ℕ). z * c ≤ n) (sym (pow-add 2 (prec f - 1) k)) lo) in
    let hi' : n / c < 2 ^ (prec f + k) = (div-lt_iff_lt-mul C).1 (subst (λ (z : ℕ). n < z * c) (sym (pow-add 2 (prec f) k)) hi) in
    let up' : suc (prec f - 1 + k) ≡ prec f + k = shift (prec f) k (pred f) in
    let z : size (n / c) ≡ prec f + k = size_is (n / c) (prec f - 1 + k) lo' (subst (λ (x : ℕ). n / c < 2 ^ x) (sym up') hi') ∙ up' in
    let d : drop (prec f) n c ≡ k = ap (λ (x : ℕ). x - prec f) z ∙ take_off (prec f) k in
    let g : grid f a c ≡ closest n (c * 2 ^ k) * 2 ^ k = ap (λ (x : ℕ). closest n (c * 2 ^ x) * 2 ^ x) d in
    subst (λ (x : ℕ). HasValue (round f false a c) false x (2 ^ low f)) g (round_val f a c (subst (λ (x : ℕ). x < overflow f) (sym g) fine))

-- ---- the 54th digit decides: r * g ≤ w < (r + 1) * g, and 2 * w or 2 * w + 1 over 4 * g, which is no middle
even_of : (r : ℕ) → r % 2 ≡ 0 → (r + 1) / 2 ≡ r / 2
even_of r h = omega arith

odd_of : (r : ℕ) → r % 2 ≡ 1 → (r + 1) / 2 ≡ suc (r / 2)
odd_of r h = omega arith

even_product : (r g : ℕ) → r % 2 ≡ 0 → r * g ≡ 2 * (r / 2 * g)
even_product r g h = ap (λ (z : ℕ). z * g) (split r h) ∙ mul_assoc 2 (r / 2) g
  where
    split : (r : ℕ) → r % 2 ≡ 0 → r ≡ 2 * (r / 2)
    split r h = omega arith

odd_product : (r g : ℕ) → r % 2 ≡ 1 → r * g ≡ 2 * (r / 2 * g) + g
odd_product r g h = ap (λ (z : ℕ). z * g) (split r h) ∙ add-mul (2 * (r / 2)) 1 g ∙ ap (λ (z : ℕ). z + 1 * g) (mul_assoc 2 (r / 2) g) ∙ ap (λ (z : ℕ). 2 * (r / 2 * g) + z) (one-mul g)
  where
    split : (r : ℕ) → r % 2 ≡ 1 → r ≡ 2 * (r / 2) + 1
    split r h = omega arith

pub next_product : (r g : ℕ) → (r + 1) * g ≡ r * g + g
next_product r g = add-mul r 1 g ∙ ap (λ (z : ℕ). r * g + z) (one-mul g)

module _ (r g w st : ℕ) (lo : r * g ≤ w) (hi : w < (r + 1) * g) (bit : st ≤ 1) (no_tie : r % 2 ≡ 1 → 2 * w + st ≡ 2 * (r * g) → ⊥) where
  four : r / 2 * (4 * g) ≡ 4 * (r / 2 * g)
  four = mul_left_comm (r / 2) 4 g

  even_case : r % 2 ≡ 0 → closest (2 * w + st) (4 * g) ≡ (r + 1) / 2
  even_case h =
      closest_low (2 * w + st) (4 * g) (r / 2) (2 * w + st - r / 2 * (4 * g)) (omega (arith, four, even_product r g h, next_product r g)) (omega (arith, four, even_product r g h, next_product r g)) ∙ sym (even_of r h)

  odd_case : r % 2 ≡ 1 → closest (2 * w + st) (4 * g) ≡ (r + 1) / 2
  odd_case h =
      let strict : 2 * (r * g) < 2 * w + st = above (r * g) w st lo (no_tie h) in
      closest_high (2 * w + st) (4 * g) (r / 2) (2 * w + st - r / 2 * (4 * g)) (omega (arith, four, odd_product r g h, next_product r g)) (omega (arith, four, odd_product r g h, next_product r g)) (omega (arith, four, odd_product r g h, next_product r g)) ∙ sym (odd_of r h)
    where
      above : (x w st : ℕ) → x ≤ w → (2 * w + st ≡ 2 * x → ⊥) → 2 * x < 2 * w + st
      above x w st h k = omega arith

  pub decided : closest (2 * w + st) (4 * g) ≡ (r + 1) / 2
  decided = elim (parity r) [ inl h ↦ even_case h | inr h ↦ odd_case h ]
    where
      parity : (r : ℕ) → (r % 2 ≡ 0) ⊎ (r % 2 ≡ 1)
      parity r = go (r % 2) refl (mod-lt r (zero-lt-suc 1))
        where
          go : (x : ℕ) → r % 2 ≡ x → r % 2 < 2 → (r % 2 ≡ 0) ⊎ (r % 2 ≡ 1)
          go zero e l = inl e
          go (suc zero) e l = inr e
          go (suc (suc x)) e l = absurd (none (r % 2) x e l)
            where
              none : (y x : ℕ) → y ≡ suc (suc x) → y < 2 → ⊥
              none y x e l = omega arith

-- ---- no root is a middle
square_group : (r g : ℕ) → r * g * (r * g) ≡ r * r * (g * g)
square_group r g = mul-mul-mul_comm r g r g

sq_odd : (r : ℕ) → r % 2 ≡ 1 → (s : ℕ) × (r * r ≡ 2 * s + 1)
sq_odd r h =
    let s = r / 2 in
    let e : r ≡ 2 * s + 1 = split r h in
    (s * (r + 1), ap (λ (z : ℕ). z * r) e ∙ add-mul (2 * s) 1 r ∙ ap (λ (z : ℕ). 2 * s * r + z) (one-mul r) ∙ grouped s r e)
  where
    split : (r : ℕ) → r % 2 ≡ 1 → r ≡ 2 * (r / 2) + 1
    split r h = omega arith

    grouped : (s r : ℕ) → r ≡ 2 * s + 1 → 2 * s * r + r ≡ 2 * (s * (r + 1)) + 1
    grouped s r e = omega (arith, mul_assoc 2 s r, mul-add s r 1, mul-one s)

bit_le : (b : Bool) → cond b 0 1 ≤ 1
bit_le true = zero-le
bit_le false = lit≤ tt

tie_free : (b : Bool) (v r g w n : ℕ) → 0 < g → (T b → w * w ≡ n) → n ≡ v * 2 ^ 54 * (g * g) → r % 2 ≡ 1 → 2 * w + cond b 0 1 ≡ 2 * (r * g) → ⊥
tie_free false v r g w n G q e o h = parity w (r * g) h
  where
    parity : (a b : ℕ) → 2 * a + 1 ≡ 2 * b → ⊥
    parity a b h = omega arith
tie_free true v r g w n G q e o h =
    let x : w ≡ r * g = halves w (r * g) h in
    let y : r * r * (g * g) ≡ v * 2 ^ 54 * (g * g) = sym (square_group r g) ∙ ap (λ (z : ℕ). z * z) (sym x) ∙ q tt ∙ e in
    let z : r * r ≡ v * 2 ^ 54 = eq_of_mul-eq-mul_right (g * g) (mul-pos G G) (r * r) (v * 2 ^ 54) y in
    let s = sq_odd r o in
    parity (r * r) v s.0 z s.1
  where
    halves : (a b : ℕ) → 2 * a + 0 ≡ 2 * b → a ≡ b
    halves a b h = omega arith

    parity : (q v s : ℕ) → q ≡ v * 2 ^ 54 → q ≡ 2 * s + 1 → ⊥
    parity q v s a b = omega arith

-- ---- the root of v * 2 ^ 54 * (g * g), against that of v * 2 ^ 54
module _ (v r g w : ℕ) (R : IsRoot (v * 2 ^ 54) r) (W : IsRoot (v * 2 ^ 54 * (g * g)) w) (G : 0 < g) where
  pub scaled_low : r * g ≤ w
  scaled_low = weak (r * g) w (sq_lt_back (r * g) (w + 1) (lt_of_le_of_lt (le_trans (le_of_eq (square_group r g)) (mul-le-mul_right (g * g) R.low)) W.high))
    where
      weak : (a b : ℕ) → a < b + 1 → a ≤ b
      weak a b h = omega arith

  pub scaled_high : w < (r + 1) * g
  scaled_high = sq_lt_back w ((r + 1) * g) (lt_of_le_of_lt W.low (lt_of_lt_of_le (mul-lt-mul_of_pos_right R.high (mul-pos G G)) (le_of_eq (sym (square_group (r + 1) g)))))

-- the root's 54 digits
pub r_ge : (v r : ℕ) → IsRoot (v * 2 ^ 54) r → 2 ^ 52 ≤ v → 2 ^ 53 ≤ r
r_ge v r R h = weak r (sq_lt_back (2 ^ 53) (r + 1) (lt_of_le_of_lt (least v h) R.high))
  where
    least : (v : ℕ) → 2 ^ 52 ≤ v → 2 ^ 53 * 2 ^ 53 ≤ v * 2 ^ 54
    least v h = omega arith

    weak : (r : ℕ) → 2 ^ 53 < r + 1 → 2 ^ 53 ≤ r
    weak r h = omega arith

pub r_under : (v r : ℕ) → IsRoot (v * 2 ^ 54) r → v < 2 ^ 54 → r < 2 ^ 54
r_under v r R h = sq_lt_back r (2 ^ 54) (lt_of_le_of_lt R.low (most v h))
  where
    most : (v : ℕ) → v < 2 ^ 54 → v * 2 ^ 54 < 2 ^ 54 * 2 ^ 54
    most v h = omega arith

-- ---- the powers of two
pub four_pow : (n : ℕ) → 4 ^ n ≡ 2 ^ n * 2 ^ n
four_pow zero = refl
four_pow (suc n) = pow-suc 4 n ∙ ap (λ (z : ℕ). z * 4) (four_pow n) ∙ regroup (2 ^ n) ∙ ap (λ (z : ℕ). z * z) (sym (pow-suc 2 n))
  where
    regroup : (p : ℕ) → p * p * 4 ≡ p * 2 * (p * 2)
    regroup p = mul_comm (p * p) 4 ∙ sym (sq_twice p)

scale_of : (v h : ℕ) → v * 4 ^ (h + 36) ≡ v * 2 ^ 54 * (2 ^ (h + 9) * 2 ^ (h + 9))
scale_of v h =
    ap (λ (z : ℕ). v * z) (ap (λ (z : ℕ). 4 ^ z) (apart h) ∙ pow-add 4 27 (h + 9) ∙ ap (λ (z : ℕ). 4 ^ 27 * z) (four_pow (h + 9)))
    ∙ sym (mul_assoc v (4 ^ 27) (2 ^ (h + 9) * 2 ^ (h + 9)))
  where
    apart : (h : ℕ) → h + 36 ≡ 27 + (h + 9)
    apart h = omega arith

-- 2 * 2 ^ 600 * 2 ^ k is 4 * g * 2 ^ 1074
unit_of : (h : ℕ) → 2 * 2 ^ 600 * 2 ^ (h + 484) ≡ 4 * 2 ^ (h + 9) * 2 ^ 1074
unit_of h = sym (pow-add 2 601 (h + 484)) ∙ ap (λ (z : ℕ). 2 ^ z) (same h) ∙ pow-add 2 (2 + (h + 9)) 1074 ∙ ap (λ (z : ℕ). z * 2 ^ 1074) (pow-add 2 2 (h + 9))
  where
    same : (h : ℕ) → 601 + (h + 484) ≡ 2 + (h + 9) + 1074
    same h = omega arith

-- c * k is 4 * g * l: a number of 53 digits of 4 * g, in units of 1 / l
grid_lo : (c k g l w m : ℕ) → c * k ≡ 4 * g * l → 2 ^ 53 * g ≤ w → 2 * w ≤ m → 2 ^ 52 * k * c ≤ m * l
grid_lo c k g l w m u a b =
    le_trans (le_of_eq (mul_assoc (2 ^ 52) k c ∙ ap (λ (z : ℕ). 2 ^ 52 * z) (mul_comm k c ∙ u) ∙ sym (mul_assoc (2 ^ 52) (4 * g) l))) (mul-le-mul_right l (small g w m a b))
  where
    small : (g w m : ℕ) → 2 ^ 53 * g ≤ w → 2 * w ≤ m → 2 ^ 52 * (4 * g) ≤ m
    small g w m a b = omega arith

grid_hi : (c k g l w m : ℕ) → 0 < l → c * k ≡ 4 * g * l → w < 2 ^ 54 * g → m ≤ 2 * w + 1 → m * l < 2 ^ 53 * k * c
grid_hi c k g l w m p u a b =
    lt_of_lt_of_le (mul-lt-mul_of_pos_right (small g w m a b) p) (le_of_eq (sym (mul_assoc (2 ^ 53) k c ∙ ap (λ (z : ℕ). 2 ^ 53 * z) (mul_comm k c ∙ u) ∙ sym (mul_assoc (2 ^ 53) (4 * g) l))))
  where
    small : (g w m : ℕ) → w < 2 ^ 54 * g → m ≤ 2 * w + 1 → m < 2 ^ 53 * (4 * g)
    small g w m a b = omega arith

-- ---- the rounded root
module _ (v h r w n : ℕ) (lo : 2 ^ 52 ≤ v) (hi : v < 2 ^ 54) (few : h ≤ 1049) (R : IsRoot (v * 2 ^ 54) r) (W : IsRoot n w) (e : n ≡ v * 2 ^ 54 * (2 ^ (h + 9) * 2 ^ (h + 9))) where
  W' : IsRoot (v * 2 ^ 54 * (2 ^ (h + 9) * 2 ^ (h + 9))) w
  W' = subst (λ (z : ℕ). IsRoot z w) e W

  above : r * 2 ^ (h + 9) ≤ w
  above = scaled_low v r (2 ^ (h + 9)) w R W' (pow_pos (h + 9))

  below : w < (r + 1) * 2 ^ (h + 9)
  below = scaled_high v r (2 ^ (h + 9)) w R W' (pow_pos (h + 9))

  least : 2 ^ 53 * 2 ^ (h + 9) ≤ r * 2 ^ (h + 9)
  least = mul-le-mul_right (2 ^ (h + 9)) (r_ge v r R lo)

  most : (r + 1) * 2 ^ (h + 9) ≤ 2 ^ 54 * 2 ^ (h + 9)
  most = mul-le-mul_right (2 ^ (h + 9)) (up_to r (r_under v r R hi))
    where
      up_to : (r : ℕ) → r < 2 ^ 54 → r + 1 ≤ 2 ^ 54
      up_to r h = omega arith

  abbrev pub num : ℕ
  num = 2 * w + cond (eqb (w * w) n) 0 1

  same_closest : closest (num * 2 ^ 1074) (2 * 2 ^ 600 * 2 ^ (h + 484)) ≡ (r + 1) / 2
  same_closest =
      closest_same (num * 2 ^ 1074) (2 * 2 ^ 600 * 2 ^ (h + 484)) num (4 * 2 ^ (h + 9)) (mul-pos (pow_pos 601) (pow_pos (h + 484))) (mul-pos (zero-lt-suc 3) (pow_pos (h + 9)))
      (mul_assoc num (2 ^ 1074) (4 * 2 ^ (h + 9)) ∙ ap (λ (z : ℕ). num * z) (mul_comm (2 ^ 1074) (4 * 2 ^ (h + 9)) ∙ sym (unit_of h)))
      ∙ decided r (2 ^ (h + 9)) w (cond (eqb (w * w) n) 0 1) above below (bit_le (eqb (w * w) n)) (tie_free (eqb (w * w) n) v r (2 ^ (h + 9)) w n (pow_pos (h + 9)) (eqb→eq (w * w) n) e)

  num_lo : 2 * w ≤ num
  num_lo = le-add_right (2 * w) (cond (eqb (w * w) n) 0 1)

  num_hi : num ≤ 2 * w + 1
  num_hi = add-le-add (le_refl (2 * w)) (bit_le (eqb (w * w) n))

  room : (r + 1) / 2 * 2 ^ (h + 484) < 2 ^ (1074 + 1024)
  room = lt_of_le_of_lt (le_trans (mul-le-mul_right (2 ^ (h + 484)) (half r (r_under v r R hi))) (le_of_eq (sym (pow-add 2 53 (h + 484))))) (pow-lt (index h few))
    where
      half : (r : ℕ) → r < 2 ^ 54 → (r + 1) / 2 ≤ 2 ^ 53
      half r h = omega arith

      index : (h : ℕ) → h ≤ 1049 → 53 + (h + 484) < 1074 + 1024
      index h k = omega arith

  pub near_val : HasValue (round binary64 false num (2 * 2 ^ 600)) false ((r + 1) / 2 * 2 ^ (h + 484)) (2 ^ 1074)
  near_val =
      subst (λ (z : ℕ). HasValue (round binary64 false num (2 * 2 ^ 600)) false (z * 2 ^ (h + 484)) (2 ^ 1074)) same_closest
      (to_grid binary64 num (2 * 2 ^ 600) (h + 484) (pow_pos 601)
      (grid_lo (2 * 2 ^ 600) (2 ^ (h + 484)) (2 ^ (h + 9)) (2 ^ 1074) w num (unit_of h) (le_trans least above) num_lo)
      (grid_hi (2 * 2 ^ 600) (2 ^ (h + 484)) (2 ^ (h + 9)) (2 ^ 1074) w num (pow_pos 1074) (unit_of h) (lt_of_lt_of_le below most) num_hi)
      (subst (λ (z : ℕ). z * 2 ^ (h + 484) < 2 ^ (1074 + 1024)) (sym same_closest) room))

v_under : (v h : ℕ) → v < 2 ^ 54 → h ≤ 1049 → v * 4 ^ (h + 36) < 4 ^ 1200
v_under v h a b = lt_of_lt_of_le (mul-lt-mul_of_pos_right a (pow4_pos (h + 36))) (le_trans (le_of_eq (sym (pow-add 4 27 (h + 36)))) (pow4_mono (27 + (h + 36)) 1200 (index h b)))
  where
    index : (h : ℕ) → h ≤ 1049 → 27 + (h + 36) ≤ 1200
    index h k = omega arith

    pow4_pos : (n : ℕ) → 0 < 4 ^ n
    pow4_pos n = subst (λ (z : ℕ). 0 < z) (sym (four_pow n)) (mul-pos (pow_pos n) (pow_pos n))

    pow4_mono : (a b : ℕ) → a ≤ b → 4 ^ a ≤ 4 ^ b
    pow4_mono a b h = subst (λ (z : ℕ). z ≤ 4 ^ b) (sym (four_pow a)) (subst (λ (z : ℕ). 2 ^ a * 2 ^ a ≤ z) (sym (four_pow b)) (mul-le-mul (pow_mono h) (pow_mono h)))

pub scaled_val : (v h : ℕ) → 2 ^ 52 ≤ v → v < 2 ^ 54 → h ≤ 1049 → HasValue (root_scaled (v * 4 ^ (h + 36))) false ((whole_root 54 (v * 2 ^ 54) + 1) / 2 * 2 ^ (h + 484)) (2 ^ 1074)
unfolding root_scaled
scaled_val v h lo hi few =
    near_val v h (whole_root 54 (v * 2 ^ 54)) (whole_root 1200 (v * 4 ^ (h + 36))) (v * 4 ^ (h + 36)) lo hi few (whole_root_lem 54 (v * 2 ^ 54) (under v hi)) (whole_root_lem 1200 (v * 4 ^ (h + 36)) (v_under v h hi few)) (scale_of v h)
  where
    under : (v : ℕ) → v < 2 ^ 54 → v * 2 ^ 54 < 4 ^ 54
    under v h = omega arith
