-- How large a float is, and what the operations make of it, each rounding counted: at most a / c, at least a / c. Assumes nothing.
use mathlib.Core.Path.{◌≡◌, refl, sym, ap, subst, ◌∙◌}
use mathlib.Core.Bool.{Bool, true, false, cond, ◌&&◌, ◌||◌, beq, false≢true}
use mathlib.Core.Logic.{◌⊎◌, inl, inr, ⊎_elim}
use Prim.Native.Nat.{ℕ, zero, suc, ◌+◌, ◌-◌, ◌*◌, ◌^◌, ◌≤◌, ◌<◌}
use native.Mathlib.Nat.{le_of_eq, le_of_lt, le_trans, not-suc-le-zero, suc-ne-zero, zero-lt-suc, mul-le-mul, mul-le-mul_right, le_of_mul-le-mul_right, mul-mul-mul_comm, mul_assoc, mul_comm, mul-one, add-mul, mul-pos, zero-mul}
use native.Mathlib.Omega.{arith}
use borrow.Author.Tests.{ne_eqb, ltb-false}
use lib.Dec.{T, ltb, eqb, ltb→lt, eqb→eq}
use lib.Ieee.{Float, nan, inf, fin, binary64, up, down, odd, units, round, neg, sum, add, mul, div, le, unlike}
use lib.Ieee.Exact.{HasValue}
use lib.Ieee.Fits.{up_pos, down_pos, and_l, round_is}
use lib.Ieee.Order.{kept, drop, round_mono, le_of_values}
use lib.Ieee.Positive.{through, positive, above, above_of_le}
use Rattle.float.proofs.Branches.{yes}
use Rattle.float.proofs.Fraction.{round_neg}
use Rattle.float.specs.Def.{abs_of}
use Rattle.lists.proofs.Cases.{below_or, by_test, and_both}
use Rattle.ranges.specs.Ranged.{within, between}

-- a number, of magnitude at most a / c
abbrev pub Small : ℕ → ℕ → Float → Type 0
Small a c nan = ⊥
Small a c (inf s) = ⊥
Small a c (fin s m e) = m * up e * c ≤ a * down e

-- of magnitude at least a / c, an infinity too
abbrev pub Large : ℕ → ℕ → Float → Type 0
Large a c nan = ⊥
Large a c (inf s) = Unit {0}
Large a c (fin s m e) = a * down e ≤ m * up e * c

-- not negative
abbrev Plus : Float → Type 0
Plus nan = ⊥
Plus (inf s) = s ≡ false
Plus (fin s m e) = s ≡ false

odd_plus : (d q k l : ℕ) → Plus (odd d false q k l)
unfolding odd
odd_plus d zero k l = refl
odd_plus d (suc q) k l = refl

units_plus : (q k : ℕ) → Plus (units binary64 false q k)
unfolding units
units_plus q k = by_test (λ b. Plus (cond b (odd 54 false q k 1074) (inf false))) (ltb (q * 2 ^ k) (2 ^ 2098)) (λ e. odd_plus 54 q k 1074) (λ e. refl)

round_plus : (a c : ℕ) → Plus (round binary64 false a c)
round_plus a c = subst (λ (x : Float). Plus x) (sym (round_is binary64 false a c)) (units_plus (kept 53 (a * 2 ^ 1074) c) (drop 53 (a * 2 ^ 1074) c))

or_split : (a b : Bool) → T (a || b) → T a ⊎ T b
or_split true b t = inl tt
or_split false b t = inr t

lt_or_eq : (a b : ℕ) → T (ltb a b || (eqb a b && true)) → a ≤ b
lt_or_eq a b t = ⊎_elim (λ u. le_of_lt (ltb→lt a b u)) (λ u. le_of_eq (eqb→eq a b (and_l (eqb a b) true u))) (or_split (ltb a b) (eqb a b && true) t)

-- below a value, and above one
small_of_le : (y x : Float) (a c : ℕ) → Plus x → HasValue y false a c → T (le x y) → Small a c x
unfolding le
small_of_le nan x a c p v h = absurd v
small_of_le (inf t) x a c p v h = absurd v
small_of_le (fin true n d) x a c p v h = absurd (false≢true (sym v.0))
small_of_le (fin false n d) nan a c p v h = absurd p
small_of_le (fin false n d) (inf true) a c p v h = absurd (false≢true (sym p))
small_of_le (fin false n d) (inf false) a c p v h = absurd h
small_of_le (fin false n d) (fin true m e) a c p v h = absurd (false≢true (sym p))
small_of_le (fin false n d) (fin false m e) a c p v h =
    through (m * up e) (n * up d) a (down e) (down d) c (down_pos d) (lt_or_eq (m * up e * down d) (n * up d * down e) h) (le_of_eq v.1)

large_of_le : (y x : Float) (a c : ℕ) → Plus x → HasValue y false a c → T (le y x) → Large a c x
unfolding le
large_of_le nan x a c p v h = absurd v
large_of_le (inf t) x a c p v h = absurd v
large_of_le (fin true n d) x a c p v h = absurd (false≢true (sym v.0))
large_of_le (fin false n d) nan a c p v h = absurd p
large_of_le (fin false n d) (inf s) a c p v h = tt
large_of_le (fin false n d) (fin true m e) a c p v h = absurd (false≢true (sym p))
large_of_le (fin false n d) (fin false m e) a c p v h =
    through a (n * up d) (m * up e) c (down d) (down e) (down_pos d) (le_of_eq (sym v.1)) (lt_or_eq (n * up d * down e) (m * up e * down d) h)

-- the sign does not matter
small_neg : (x : Float) (a c : ℕ) → Small a c x → Small a c (neg x)
unfolding neg
small_neg nan a c h = h
small_neg (inf s) a c h = h
small_neg (fin s m e) a c h = h

large_neg : (x : Float) (a c : ℕ) → Large a c x → Large a c (neg x)
unfolding neg
large_neg nan a c h = h
large_neg (inf s) a c h = h
large_neg (fin s m e) a c h = h

-- a / c is a value of the format
abbrev pub Exact : ℕ → ℕ → Type 0
Exact a c = HasValue (round binary64 false a c) false a c

module _ (num den a c : ℕ) (D : 0 < den) (C : 0 < c) (exact : Exact a c) where
  plus_small : num * c ≤ a * den → Small a c (round binary64 false num den)
  plus_small h = small_of_le (round binary64 false a c) (round binary64 false num den) a c (round_plus num den) exact (round_mono binary64 num den a c D C h)

  pub round_small : num * c ≤ a * den → (s : Bool) → Small a c (round binary64 s num den)
  round_small h false = plus_small h
  round_small h true = subst (λ (x : Float). Small a c x) (round_neg binary64 num den) (small_neg (round binary64 false num den) a c (plus_small h))

  plus_large : a * den ≤ num * c → Large a c (round binary64 false num den)
  plus_large h = large_of_le (round binary64 false a c) (round binary64 false num den) a c (round_plus num den) exact (round_mono binary64 a c num den C D h)

  pub round_large : a * den ≤ num * c → (s : Bool) → Large a c (round binary64 s num den)
  round_large h false = plus_large h
  round_large h true = subst (λ (x : Float). Large a c x) (round_neg binary64 num den) (large_neg (round binary64 false num den) a c (plus_large h))

products : (x y c d a b p q : ℕ) → x * c ≤ a * p → y * d ≤ b * q → x * y * (c * d) ≤ a * b * (p * q)
products x y c d a b p q h k =
    le_trans (le_of_eq (mul-mul-mul_comm x y c d)) (le_trans (mul-le-mul h k) (le_of_eq (mul-mul-mul_comm a p b q)))

-- a product and a quotient: of bounds a / c and b / d, held against u / w
module _ (a c b d u w : ℕ) (C : 0 < c * d) (W : 0 < w) (exact : Exact u w) where
  pub mul_small : (x y : Float) → Small a c x → Small b d y → a * b * w ≤ u * (c * d) → Small u w (mul binary64 x y)
  unfolding mul
  mul_small nan y p q h = absurd p
  mul_small (inf s) y p q h = absurd p
  mul_small (fin s m e) nan p q h = absurd q
  mul_small (fin s m e) (inf t) p q h = absurd q
  mul_small (fin s m e) (fin t n i) p q h =
      round_small (m * up e * (n * up i)) (down e * down i) u w (mul-pos (down_pos e) (down_pos i)) W exact
      (through (m * up e * (n * up i)) (a * b) u (down e * down i) (c * d) w C (products (m * up e) (n * up i) c d a b (down e) (down i) p q) h)
      (unlike s t)

  -- of two numbers
  pub mul_large : (x y : Float) (A B : ℕ) → Small A 1 x → Small B 1 y → Large a c x → Large b d y → u * (c * d) ≤ a * b * w → Large u w (mul binary64 x y)
  unfolding mul
  mul_large nan y A B r s p q h = absurd r
  mul_large (inf s) y A B r k p q h = absurd r
  mul_large (fin s m e) nan A B r k p q h = absurd k
  mul_large (fin s m e) (inf t) A B r k p q h = absurd k
  mul_large (fin s m e) (fin t n i) A B r k p q h =
      round_large (m * up e * (n * up i)) (down e * down i) u w (mul-pos (down_pos e) (down_pos i)) W exact
      (through u (a * b) (m * up e * (n * up i)) w (c * d) (down e * down i) C h
      (products a b (down e) (down i) (m * up e) (n * up i) c d p q))
      (unlike s t)

-- a quotient, by a number of at least b / d
module _ (a c b d u w : ℕ) (B : 0 < b) (C : 0 < c * b) (W : 0 < w) (exact : Exact u w) where
  no_digits : (p i : ℕ) → 0 < p → b * p ≤ 0 * i * d → ⊥
  no_digits p i P h = not-suc-le-zero (le_trans (mul-pos B P) (le_trans h (le_of_eq (ap (λ (z : ℕ). z * d) (zero-mul i) ∙ zero-mul d))))

  pub div_small : (x y : Float) (A : ℕ) → Small a c x → Small A 1 y → Large b d y → a * d * w ≤ u * (c * b) → Small u w (div binary64 x y)
  unfolding div
  div_small nan y A p k q h = absurd p
  div_small (inf s) y A p k q h = absurd p
  div_small (fin s m e) nan A p k q h = absurd k
  div_small (fin s m e) (inf t) A p k q h = absurd k
  div_small (fin s m e) (fin t zero i) A p k q h = absurd (no_digits (down i) (up i) (down_pos i) q)
  div_small (fin s m e) (fin t (suc n) i) A p k q h =
      let swapped : down i * b ≤ d * (suc n * up i) = le_trans (le_of_eq (mul_comm (down i) b)) (le_trans q (le_of_eq (mul_comm (suc n * up i) d))) in
      let both : m * up e * down i * (c * b) ≤ a * d * (suc n * up i * down e) = le_trans (products (m * up e) (down i) c b a d (down e) (suc n * up i) p swapped) (le_of_eq (ap (λ (z : ℕ). a * d * z) (mul_comm (down e) (suc n * up i)))) in
      rw (ne_eqb (suc n) 0 (suc-ne-zero n))
      (round_small (m * up e * down i) (suc n * up i * down e) u w (mul-pos (mul-pos (zero-lt-suc n) (up_pos i)) (down_pos e)) W exact
      (through (m * up e * down i) (a * d) u (suc n * up i * down e) (c * b) w C both h)
      (unlike s t))

-- a sum of whole bounds
module _ (u : ℕ) (exact : Exact u 1) (s t : Bool) (A B C : ℕ) (P : 0 < C) where
  rounded_small : (n : ℕ) → n ≤ u * C → (r : Bool) → Small u 1 (round binary64 r n C)
  rounded_small n h r = round_small n C u 1 P (zero-lt-suc 0) exact (omega arith) r

  sum_small : A + B ≤ u * C → Small u 1 (sum binary64 s A t B C)
  unfolding sum
  sum_small h =
      by_test (λ b. Small u 1 (cond b (round binary64 s (A + B) C) (cond (ltb A B) (round binary64 t (B - A) C) (round binary64 (s && ltb B A) (A - B) C)))) (beq s t)
      (λ e. rounded_small (A + B) h s)
      (λ e. by_test (λ b. Small u 1 (cond b (round binary64 t (B - A) C) (round binary64 (s && ltb B A) (A - B) C))) (ltb A B)
      (λ e. rounded_small (B - A) (omega arith) t)
      (λ e. rounded_small (A - B) (omega arith) (s && ltb B A)))

  rounded_large : (n : ℕ) → u * C ≤ n → (r : Bool) → Large u 1 (round binary64 r n C)
  rounded_large n h r = round_large n C u 1 P (zero-lt-suc 0) exact (omega arith) r

  sum_large : u * C + A ≤ B → Large u 1 (sum binary64 s A t B C)
  unfolding sum
  sum_large h =
      by_test (λ b. Large u 1 (cond b (round binary64 s (A + B) C) (cond (ltb A B) (round binary64 t (B - A) C) (round binary64 (s && ltb B A) (A - B) C)))) (beq s t)
      (λ e. rounded_large (A + B) (omega arith) s)
      (λ e. by_test (λ b. Large u 1 (cond b (round binary64 t (B - A) C) (round binary64 (s && ltb B A) (A - B) C))) (ltb A B)
      (λ e. rounded_large (B - A) (omega arith) t)
      (λ e. rounded_large (A - B) (omega (arith, ltb-false A B e)) (s && ltb B A)))

scaled_up : (x a p q : ℕ) → x * 1 ≤ a * p → x * q ≤ a * (p * q)
scaled_up x a p q h = le_trans (mul-le-mul_right q (le_trans (le_of_eq (sym (mul-one x))) h)) (le_of_eq (mul_assoc a p q))

scaled_down : (x a p q : ℕ) → a * p ≤ x * 1 → a * (p * q) ≤ x * q
scaled_down x a p q h = le_trans (le_of_eq (sym (mul_assoc a p q))) (mul-le-mul_right q (le_trans h (le_of_eq (mul-one x))))

module _ (a b u : ℕ) (exact : Exact u 1) where
  pub add_small : (x y : Float) → Small a 1 x → Small b 1 y → a + b ≤ u → Small u 1 (add binary64 x y)
  unfolding add
  add_small nan y p q h = absurd p
  add_small (inf s) y p q h = absurd p
  add_small (fin s m e) nan p q h = absurd q
  add_small (fin s m e) (inf t) p q h = absurd q
  add_small (fin s m e) (fin t n i) p q h =
      let k = down e * down i in
      let l : m * up e * down i ≤ a * k = scaled_up (m * up e) a (down e) (down i) p in
      let r : n * up i * down e ≤ b * k = le_trans (scaled_up (n * up i) b (down i) (down e) q) (le_of_eq (ap (λ (z : ℕ). b * z) (mul_comm (down i) (down e)))) in
      let j : a * k + b * k ≤ u * k = le_trans (le_of_eq (sym (add-mul a b k))) (mul-le-mul_right k h) in
      sum_small u exact s t (m * up e * down i) (n * up i * down e) k (mul-pos (down_pos e) (down_pos i)) (omega arith)

  pub add_large : (x y : Float) → Small a 1 x → Large b 1 y → u + a ≤ b → Large u 1 (add binary64 x y)
  unfolding add
  add_large nan y p q h = absurd p
  add_large (inf s) y p q h = absurd p
  add_large (fin s m e) nan p q h = absurd q
  add_large (fin s m e) (inf t) p q h = tt
  add_large (fin s m e) (fin t n i) p q h =
      let k = down e * down i in
      let l : m * up e * down i ≤ a * k = scaled_up (m * up e) a (down e) (down i) p in
      let r : b * k ≤ n * up i * down e = le_trans (le_of_eq (ap (λ (z : ℕ). b * z) (mul_comm (down e) (down i)))) (scaled_down (n * up i) b (down i) (down e) q) in
      let j : u * k + a * k ≤ b * k = le_trans (le_of_eq (sym (add-mul u a k))) (mul-le-mul_right k h) in
      sum_large u exact s t (m * up e * down i) (n * up i * down e) k (mul-pos (down_pos e) (down_pos i)) (omega arith)

-- not both, and one of the two
pub clash : (a u : ℕ) (x : Float) → Small a 1 x → Large u 1 x → a < u → ⊥
clash a u nan p q h = p
clash a u (inf s) p q h = p
clash a u (fin s m e) p q h = let k : u ≤ a = le_of_mul-le-mul_right (le_trans q p) (down_pos e) in omega arith

pub by_size : (a b c : ℕ) (x : Float) → Small a 1 x → Small b c x ⊎ Large b c x
by_size a b c nan p = absurd p
by_size a b c (inf s) p = absurd p
by_size a b c (fin s m e) p = ⊎_elim (λ h. inl (le_of_lt h)) (λ h. inr h) (below_or (m * up e * c) (b * down e))

-- ---- the tests of a range
sure : (b : Bool) → T b → b ≡ true
sure true t = refl
sure false t = absurd t

module _ (limit : Float) (a c : ℕ) (value : HasValue limit false a c) where
  pub within_small : (x : Float) → within limit x ≡ true → Small a c x
  unfolding within abs_of le
  within_small nan h = absurd (false≢true h)
  within_small (inf s) h = small_of_le limit (inf false) a c refl value (yes h)
  within_small (fin s m e) h = small_of_le limit (fin false m e) a c refl value (yes h)

  pub small_within : (x : Float) → 0 < c → Small a c x → within limit x ≡ true
  unfolding within abs_of
  small_within nan C p = absurd p
  small_within (inf s) C p = absurd p
  small_within (fin s m e) C p = sure (le (fin false m e) limit) (le_of_values (fin false m e) limit (m * up e) (down e) a c (down_pos e) C (refl, refl) value p)

above_plus : (x : Float) → T (above x) → Plus x
above_plus nan t = t
above_plus (inf true) t = absurd t
above_plus (inf false) t = refl
above_plus (fin true m e) t = absurd t
above_plus (fin false m e) t = refl

module _ (lo hi : Float) (a c b d : ℕ) (least : HasValue lo false a c) (most : HasValue hi false b d) (some : T (positive lo)) (x : Float) (h : between lo hi x ≡ true) where
  ends : (le lo x ≡ true) × (le x hi ≡ true)
  unfolding between
  ends = and_both (le lo x) (le x hi) h

  plus : Plus x
  plus = above_plus x (above_of_le lo x some (yes ends.0))

  pub between_small : Small b d x
  between_small = small_of_le hi x b d plus most (yes ends.1)

  pub between_large : Large a c x
  between_large = large_of_le lo x a c plus least (yes ends.0)
