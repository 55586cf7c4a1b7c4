-- The certificate of a root: what the parts of a square are, and that what `confirmed` lets pass is the whole number nearest to the root. Assumes nothing.
use Rattle.std.proofs.Common.{◌≡◌, ℕ, ◌+◌, ◌-◌, ◌*◌, ◌/◌, ◌%◌, ◌^◌, ◌<◌, ◌≤◌, Bool, true, false, cond, not, ◌&&◌, T, eqb, ltb, leb, sym, ap, ◌∙◌, subst, lt_of_le_of_lt, mul_assoc, mul_comm, add-mul, mul-le-mul, mul-add, mul_right_comm, arith, eqb→eq, ltb→lt, leb→le, nltb→le}
use lib.Dec.{nleb→lt}
use Rattle.float.specs.Def.{whole_root}
use Rattle.float.specs.Steps.{Confirmed}
use Rattle.float.proofs.WholeRoots.{sq_plus, sq_twice, sq_lt_back, whole_root_lem, IsRoot}

-- ---- the nearest whole number
-- with t ^ 2 - t < x ≤ t ^ 2 + t the whole root of 4 * x is 2 * t - 1 or 2 * t
pub nearest : (x u w : ℕ) → (u + 1) * (u + 1) < x + (u + 1) → x ≤ (u + 1) * (u + 1) + (u + 1) → IsRoot (4 * x) w → (w + 1) / 2 ≡ u + 1
nearest x u w lo hi W = half u w (sq_lt_back (2 * u + 1) (w + 1) (lt_of_le_of_lt low W.high)) (sq_lt_back w (2 * u + 3) (lt_of_le_of_lt W.low high))
  where
    odd : (z : ℕ) → (2 * z + 1) * (2 * z + 1) ≡ 4 * (z * z) + 4 * z + 1
    odd z = sq_plus (2 * z) ∙ ap (λ (y : ℕ). y + 2 * (2 * z) + 1) (ap (λ (y : ℕ). y * y) (mul_comm 2 z) ∙ sq_twice z) ∙ rest (z * z) z
      where
        rest : (s z : ℕ) → 4 * s + 2 * (2 * z) + 1 ≡ 4 * s + 4 * z + 1
        rest s z = omega arith

    low : (2 * u + 1) * (2 * u + 1) ≤ 4 * x
    low = omega (arith, odd u, sq_plus u, lo)

    high : 4 * x < (2 * u + 3) * (2 * u + 3)
    high = subst (λ (z : ℕ). 4 * x < z * z) (three u) (omega (arith, odd (u + 1), hi))
      where
        three : (u : ℕ) → 2 * (u + 1) + 1 ≡ 2 * u + 3
        three u = omega arith

    half : (u w : ℕ) → 2 * u + 1 < w + 1 → w < 2 * u + 3 → (w + 1) / 2 ≡ u + 1
    half u w a b = omega arith

-- ---- a square in parts
pub square_parts : (s : ℕ) → s * s ≡
    (s / 2 ^ 26 * (s / 2 ^ 26) + s / 2 ^ 26 * (s % 2 ^ 26) / 2 ^ 25) * 2 ^ 52 + (s / 2 ^ 26 * (s % 2 ^ 26) % 2 ^ 25 * 2 ^ 27 + s % 2 ^ 26 * (s % 2 ^ 26))
square_parts s = ap (λ (z : ℕ). z * z) (split s) ∙ squared (s / 2 ^ 26) (s % 2 ^ 26) ∙ sums (s / 2 ^ 26 * (s / 2 ^ 26)) (s / 2 ^ 26 * (s % 2 ^ 26)) (s % 2 ^ 26 * (s % 2 ^ 26))
  where
    split : (s : ℕ) → s ≡ s / 2 ^ 26 * 2 ^ 26 + s % 2 ^ 26
    split s = omega arith

    scaled : (a b : ℕ) → a * 2 ^ 26 * b ≡ a * b * 2 ^ 26
    scaled a b = mul_right_comm a (2 ^ 26) b

    squared : (a b : ℕ) → (a * 2 ^ 26 + b) * (a * 2 ^ 26 + b) ≡ a * a * 2 ^ 52 + 2 * (a * b * 2 ^ 26) + b * b
    squared a b =
        add-mul (a * 2 ^ 26) b (a * 2 ^ 26 + b)
        ∙ ap (λ (z : ℕ). z + b * (a * 2 ^ 26 + b)) (mul-add (a * 2 ^ 26) (a * 2 ^ 26) b)
        ∙ ap (λ (z : ℕ). a * 2 ^ 26 * (a * 2 ^ 26) + a * 2 ^ 26 * b + z) (mul-add b (a * 2 ^ 26) b)
        ∙ tidy (a * a) (a * 2 ^ 26 * (a * 2 ^ 26)) (a * 2 ^ 26 * b) (b * (a * 2 ^ 26)) (a * b * 2 ^ 26) (b * b)
        (scaled a (a * 2 ^ 26) ∙ ap (λ (z : ℕ). z * 2 ^ 26) (sym (mul_assoc a a (2 ^ 26)))) (scaled a b) (mul_comm b (a * 2 ^ 26) ∙ scaled a b)
      where
        tidy : (aa x y z c bb : ℕ) → x ≡ aa * 2 ^ 26 * 2 ^ 26 → y ≡ c → z ≡ c → x + y + (z + bb) ≡ aa * 2 ^ 52 + 2 * c + bb
        tidy aa x y z c bb p q r = omega arith

    sums : (aa c bb : ℕ) → aa * 2 ^ 52 + 2 * (c * 2 ^ 26) + bb ≡ (aa + c / 2 ^ 25) * 2 ^ 52 + (c % 2 ^ 25 * 2 ^ 27 + bb)
    sums aa c bb = omega arith

pub record Parts (s : ℕ) : Type 0 where
  pub high : s / 2 ^ 26 * (s / 2 ^ 26) ≤ 2 ^ 54
  pub mixed : s / 2 ^ 26 * (s % 2 ^ 26) ≤ 2 ^ 53
  pub low : s % 2 ^ 26 * (s % 2 ^ 26) ≤ 2 ^ 52

pub parts_small : (s : ℕ) → s < 2 ^ 53 → Parts s
parts_small s h = record { high = mul-le-mul (over s h) (over s h); mixed = mul-le-mul (over s h) (under s); low = mul-le-mul (under s) (under s) }
  where
    over : (s : ℕ) → s < 2 ^ 53 → s / 2 ^ 26 ≤ 2 ^ 27
    over s h = omega arith

    under : (s : ℕ) → s % 2 ^ 26 ≤ 2 ^ 26
    under s = omega arith

-- ---- the certificate
-- x stands for v * 2 ^ 52, and l is x - s ^ 2 + 2 ^ 57: the three steps from s
module _ (x s l w : ℕ) (W : IsRoot (4 * x) w) (L : l + s * s ≡ x + 2 ^ 57) (big : 2 ^ 52 ≤ s) where
  stay : l ≤ 2 ^ 57 + s → 2 ^ 57 < l + s → (w + 1) / 2 ≡ s
  stay a b = at (s - 1) (less s big) L a b
    where
      less : (s : ℕ) → 2 ^ 52 ≤ s → s ≡ s - 1 + 1
      less s h = omega arith

      at : (u : ℕ) → s ≡ u + 1 → l + s * s ≡ x + 2 ^ 57 → l ≤ 2 ^ 57 + s → 2 ^ 57 < l + s → (w + 1) / 2 ≡ s
      at u e L a b = nearest x u w (subst (λ (z : ℕ). z * z < x + z) e (omega arith)) (subst (λ (z : ℕ). x ≤ z * z + z) e (omega arith)) W ∙ sym e

  rise : 2 ^ 57 + s < l → l ≤ 2 ^ 57 + 2 + 3 * s → (w + 1) / 2 ≡ s + 1
  rise a b = nearest x s w (omega (arith, sq_plus s, L)) (omega (arith, sq_plus s, L)) W

  fall : l + s ≤ 2 ^ 57 → 2 ^ 57 + 2 < l + 3 * s → (w + 1) / 2 ≡ s - 1
  fall a b = at (s - 2) (less s big) L a b ∙ same s big
    where
      less : (s : ℕ) → 2 ^ 52 ≤ s → s ≡ s - 2 + 1 + 1
      less s h = omega arith

      same : (s : ℕ) → 2 ^ 52 ≤ s → s - 2 + 1 ≡ s - 1
      same s h = omega arith

      at : (u : ℕ) → s ≡ u + 1 + 1 → l + s * s ≡ x + 2 ^ 57 → l + s ≤ 2 ^ 57 → 2 ^ 57 + 2 < l + 3 * s → (w + 1) / 2 ≡ u + 1
      at u e L a b =
          let e' = ap (λ (z : ℕ). z * z) e ∙ sq_plus (u + 1) in
          nearest x u w (low ((u + 1) * (u + 1)) (s * s) u s l x e e' L a b) (high ((u + 1) * (u + 1)) (s * s) u s l x e e' L a b) W
        where
          low : (tt ss u s l x : ℕ) → s ≡ u + 1 + 1 → ss ≡ tt + 2 * (u + 1) + 1 → l + ss ≡ x + 2 ^ 57 → l + s ≤ 2 ^ 57 → 2 ^ 57 + 2 < l + 3 * s → tt < x + (u + 1)
          low tt ss u s l x e f L a b = omega arith

          high : (tt ss u s l x : ℕ) → s ≡ u + 1 + 1 → ss ≡ tt + 2 * (u + 1) + 1 → l + ss ≡ x + 2 ^ 57 → l + s ≤ 2 ^ 57 → 2 ^ 57 + 2 < l + 3 * s → x ≤ tt + (u + 1)
          high tt ss u s l x e f L a b = omega arith

-- the number that the tests choose
abbrev pub stepped : ℕ → ℕ → ℕ
stepped s l = s + cond (ltb (2 ^ 57 + s) l) 1 0 - cond (leb (l + s) (2 ^ 57)) 1 0

module _ (v s l : ℕ) (short : v < 2 ^ 54) (L : l + s * s ≡ v * 2 ^ 52 + 2 ^ 57) (big : 2 ^ 52 ≤ s) (over : l ≤ 2 ^ 57 + 2 + 3 * s) (under : 2 ^ 57 + 2 < l + 3 * s) where
  root_at : IsRoot (4 * (v * 2 ^ 52)) (whole_root 54 (v * 2 ^ 54))
  root_at = subst (λ (z : ℕ). IsRoot z (whole_root 54 (v * 2 ^ 54))) (four v) (whole_root_lem 54 (v * 2 ^ 54) (below v short))
    where
      four : (v : ℕ) → v * 2 ^ 54 ≡ 4 * (v * 2 ^ 52)
      four v = omega arith

      below : (v : ℕ) → v < 2 ^ 54 → v * 2 ^ 54 < 4 ^ 54
      below v h = omega arith

  by_steps : (up down : Bool) → (T up → 2 ^ 57 + s < l) → (T (not up) → l ≤ 2 ^ 57 + s) → (T down → l + s ≤ 2 ^ 57) → (T (not down) → 2 ^ 57 < l + s) →
      (whole_root 54 (v * 2 ^ 54) + 1) / 2 ≡ s + cond up 1 0 - cond down 1 0
  by_steps true true a b c d = absurd (never l s (a tt) (c tt))
    where
      never : (l s : ℕ) → 2 ^ 57 + s < l → l + s ≤ 2 ^ 57 → ⊥
      never l s p q = omega arith
  by_steps true false a b c d = rise (v * 2 ^ 52) s l _ root_at L big (a tt) over ∙ plain s
    where
      plain : (s : ℕ) → s + 1 ≡ s + 1 - 0
      plain s = omega arith
  by_steps false true a b c d = fall (v * 2 ^ 52) s l _ root_at L big (c tt) under ∙ plain s
    where
      plain : (s : ℕ) → s - 1 ≡ s + 0 - 1
      plain s = omega arith
  by_steps false false a b c d = stay (v * 2 ^ 52) s l _ root_at L big (b tt) (d tt) ∙ plain s
    where
      plain : (s : ℕ) → s ≡ s + 0 - 0
      plain s = omega arith

  pub confirms : (whole_root 54 (v * 2 ^ 54) + 1) / 2 ≡ stepped s l
  confirms = by_steps (ltb (2 ^ 57 + s) l) (leb (l + s) (2 ^ 57)) (ltb→lt (2 ^ 57 + s) l) (nltb→le (2 ^ 57 + s) l) (leb→le (l + s) (2 ^ 57)) (nleb→lt (l + s) (2 ^ 57))

-- ---- what `confirmed` holds
abbrev pub high_of : ℕ → ℕ
high_of s = s / 2 ^ 26 * (s / 2 ^ 26) + s / 2 ^ 26 * (s % 2 ^ 26) / 2 ^ 25

abbrev pub low_of : ℕ → ℕ
low_of s = s / 2 ^ 26 * (s % 2 ^ 26) % 2 ^ 25 * 2 ^ 27 + s % 2 ^ 26 * (s % 2 ^ 26)

abbrev pub off_of : ℕ → ℕ → ℕ
off_of v s = v + 72057594037927944 - high_of s

abbrev pub left_of : ℕ → ℕ → ℕ
left_of v s = off_of v s % 16 * 2 ^ 52 + 108086391056891904 - low_of s

left_is : (v s : ℕ) → s < 2 ^ 53 → off_of v s / 16 ≡ 2 ^ 52 → left_of v s + s * s ≡ v * 2 ^ 52 + 2 ^ 57
left_is v s h e = ap (λ (z : ℕ). left_of v s + z) (square_parts s) ∙ sums v (high_of s) (low_of s) (few (s / 2 ^ 26 * (s % 2 ^ 26)) (s % 2 ^ 26 * (s % 2 ^ 26)) (parts_small s h).low) e
  where
    few : (ab bb : ℕ) → bb ≤ 2 ^ 52 → ab % 2 ^ 25 * 2 ^ 27 + bb ≤ 2 ^ 53
    few ab bb h = omega arith

    sums : (v p q : ℕ) → q ≤ 2 ^ 53 → (v + 72057594037927944 - p) / 16 ≡ 2 ^ 52 → (v + 72057594037927944 - p) % 16 * 2 ^ 52 + 108086391056891904 - q + (p * 2 ^ 52 + q) ≡ v * 2 ^ 52 + 2 ^ 57
    sums v p q h e = omega arith

none : (r : ℕ) → r ≡ 0 → 0 < r → ⊥
none r e h = omega arith

module _ (v s : ℕ) (short : v < 2 ^ 54) (big : 2 ^ 52 ≤ s) (small : s < 2 ^ 53) where
  passed : (a b c : Bool) → (T a → off_of v s / 16 ≡ 2 ^ 52) → (T b → left_of v s ≤ 2 ^ 57 + 2 + 3 * s) → (T c → 2 ^ 57 + 2 < left_of v s + 3 * s) →
      (r : ℕ) → r ≡ cond (a && b && c) (stepped s (left_of v s)) 0 → 0 < r → (whole_root 54 (v * 2 ^ 54) + 1) / 2 ≡ r
  passed true true true p q k r e h = confirms v s (left_of v s) short (left_is v s small (p tt)) big (q tt) (k tt) ∙ sym e
  passed true true false p q k r e h = absurd (none r e h)
  passed true false c p q k r e h = absurd (none r e h)
  passed false b c p q k r e h = absurd (none r e h)

  pub certified : (u w r : ℕ) → u ≡ cond (ltb (2 ^ 57 + s) (left_of v s)) 1 0 → w ≡ cond (leb (left_of v s + s) (2 ^ 57)) 1 0 →
      r ≡ cond (eqb (off_of v s / 16) (2 ^ 52) && leb (left_of v s) (2 ^ 57 + 2 + 3 * s) && ltb (2 ^ 57 + 2) (left_of v s + 3 * s)) (s + u - w) 0 → Confirmed v r
  certified u w r a b e = record {
    nearest =
        passed (eqb (off_of v s / 16) (2 ^ 52)) (leb (left_of v s) (2 ^ 57 + 2 + 3 * s)) (ltb (2 ^ 57 + 2) (left_of v s + 3 * s))
        (eqb→eq (off_of v s / 16) (2 ^ 52)) (leb→le (left_of v s) (2 ^ 57 + 2 + 3 * s)) (ltb→lt (2 ^ 57 + 2) (left_of v s + 3 * s)) r
        (e ∙ cc (a, b));
  }

pub one_at_most : (b : Bool) (u : ℕ) → u ≡ cond b 1 0 → u ≤ 1
one_at_most true u e = omega arith
one_at_most false u e = omega arith
