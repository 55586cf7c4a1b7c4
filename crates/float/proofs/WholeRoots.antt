-- Whole square roots: squares and their order, what `wholeRoot` gives, and the loop that finds a root digit by digit. Nothing here is about floats. Assumes nothing.
use Rattle.std.proofs.Common.{◌≡◌, ℕ, zero, suc, ◌+◌, ◌-◌, ◌*◌, ◌/◌, ◌%◌, ◌^◌, ◌<◌, ◌≤◌, Bool, true, false, cond, not, T, ltb, leb, sym, refl, ap, ◌∙◌, subst, zero-le, le_trans, lt_of_lt_of_le, lt_of_le_of_lt, mod-lt, zero-lt-suc, mul_assoc, mul_comm, div-lt_iff_lt-mul, add-mul, mul-le-mul, le_antisymm, pow-suc, lt_of_not-le, div-add-mod', mul-add, mul_right_comm, not-le_of_lt, mul_left_comm, arith, ltb→lt, leb→le, nltb→le, pow_pos}
use native.Mathlib.Nat.{one-le-pow}
use lib.Dec.{nleb→lt}
use Rattle.float.specs.Def.{whole_root}
use Rattle.float.specs.Steps.{Within, Digits}

-- ---- squares
pub sq_plus : (x : ℕ) → (x + 1) * (x + 1) ≡ x * x + 2 * x + 1
sq_plus x = add-mul x 1 (x + 1) ∙ ap (λ (y : ℕ). y + 1 * (x + 1)) (mul-add x x 1) ∙ rest (x * x) x
  where
    rest : (s x : ℕ) → s + x * 1 + 1 * (x + 1) ≡ s + 2 * x + 1
    rest s x = omega arith

pub sq_twice : (x : ℕ) → x * 2 * (x * 2) ≡ 4 * (x * x)
sq_twice x = mul_assoc x 2 (x * 2) ∙ ap (λ (y : ℕ). x * y) (sym (mul_assoc 2 x 2) ∙ mul_right_comm 2 x 2) ∙ mul_left_comm x 4 x

pub sq_lt_back : (a b : ℕ) → a * a < b * b → a < b
sq_lt_back a b h = lt_of_not-le (λ (g : b ≤ a). not-le_of_lt h (mul-le-mul g g))

pub root_unique : (n r s : ℕ) → r * r ≤ n → n < (r + 1) * (r + 1) → s * s ≤ n → n < (s + 1) * (s + 1) → r ≡ s
root_unique n r s a b c d = le_antisymm (below r (s + 1) (sq_lt_back r (s + 1) (lt_of_le_of_lt a d)) s refl) (below s (r + 1) (sq_lt_back s (r + 1) (lt_of_le_of_lt c b)) r refl)
  where
    below : (x y : ℕ) → x < y → (z : ℕ) → y ≡ z + 1 → x ≤ z
    below x y h z e = omega arith

-- ---- `wholeRoot`
abbrev pub IsRoot : ℕ → ℕ → Type 0
IsRoot n r = Within n r 1

root_step : (v w : ℕ) → IsRoot (v / 4) w → IsRoot v (cond (leb ((2 * w + 1) * (2 * w + 1)) v) (2 * w + 1) (2 * w))
root_step v w h = go (leb ((2 * w + 1) * (2 * w + 1)) v) (leb→le ((2 * w + 1) * (2 * w + 1)) v) (nleb→lt ((2 * w + 1) * (2 * w + 1)) v)
  where
    twice : 2 * w * (2 * w) ≡ 4 * (w * w)
    twice = ap (λ (x : ℕ). x * x) (mul_comm 2 w) ∙ sq_twice w

    lower : 2 * w * (2 * w) ≤ v
    lower = omega (arith, twice, h.low)

    upper : v < (2 * w + 1 + 1) * (2 * w + 1 + 1)
    upper = omega (arith, twice, h.high, sq_plus w, sq_plus (2 * w), sq_plus (2 * w + 1))

    go : (b : Bool) → (T b → (2 * w + 1) * (2 * w + 1) ≤ v) → (T (not b) → v < (2 * w + 1) * (2 * w + 1)) → IsRoot v (cond b (2 * w + 1) (2 * w))
    go true a c = record { low = a tt; high = upper }
    go false a c = record { low = lower; high = c tt }

pub whole_root_lem : (d v : ℕ) → v < 4 ^ d → IsRoot v (whole_root d v)
unfolding whole_root
whole_root_lem zero v h = record { low = zero-le; high = h }
whole_root_lem (suc d) v h = root_step v (whole_root d (v / 4)) (whole_root_lem d (v / 4) ((div-lt_iff_lt-mul (zero-lt-suc 3)).1 (subst (λ (z : ℕ). v < z) (pow-suc 4 d) h)))

-- ---- the start: the table's entry, raised
raise_yes : (w r k : ℕ) → Within w r (2 * k) → (r + k) * (r + k) ≤ w → Within w (r + k) k
raise_yes w r k W h = record { low = h; high = subst (λ (z : ℕ). w < z * z) (twice r k) W.high }
  where
    twice : (r k : ℕ) → r + 2 * k ≡ r + k + k
    twice r k = omega arith

raise_no : (w r k : ℕ) → Within w r (2 * k) → w < (r + k) * (r + k) → Within w r k
raise_no w r k W h = record { low = W.low; high = h }

pub raise : (w r k : ℕ) → Within w r (2 * k) → Within w (cond (ltb w ((r + k) * (r + k))) r (r + k)) k
raise w r k W = go (ltb w ((r + k) * (r + k))) (ltb→lt w ((r + k) * (r + k))) (nltb→le w ((r + k) * (r + k)))
  where
    go : (b : Bool) → (T b → w < (r + k) * (r + k)) → (T (not b) → (r + k) * (r + k) ≤ w) → Within w (cond b r (r + k)) k
    go true a c = raise_no w r k W (a tt)
    go false a c = raise_yes w r k W (c tt)

pub raise_small : (w r k : ℕ) → Within w r k → w < 2 ^ 26 → r < 2 ^ 13
raise_small w r k W h = sq_lt_back r (2 ^ 13) (lt_of_le_of_lt W.low h)

pub raise_fits : (w r k : ℕ) → Within w r (2 * k) → k ≤ 8 → w < 2 ^ 26 → (r + k) * (r + k) < 2 ^ 64
raise_fits w r k W few h = lt_of_le_of_lt (mul-le-mul (under r k (raise_small w r (2 * k) W h) few) (under r k (raise_small w r (2 * k) W h) few)) less
  where
    under : (r k : ℕ) → r < 2 ^ 13 → k ≤ 8 → r + k ≤ 2 ^ 14
    under r k h l = omega arith

    less : 2 ^ 14 * 2 ^ 14 < 2 ^ 64
    less = omega arith

-- An entry is at most 8 too small: with e from 4,096 up, (e + 9) ^ 2 is more than (e + 1) ^ 2 by 65,536 or more.
module _ (m e w : ℕ) (E : Within (65536 * m) e 1) (lo : 256 ≤ m) (h : w / 65536 ≡ m) where
  entry_least : 4096 ≤ e
  entry_least = least e (sq_lt_back 4096 (e + 1) (lt_of_le_of_lt (most m lo) E.high))
    where
      most : (m : ℕ) → 256 ≤ m → 4096 * 4096 ≤ 65536 * m
      most m l = omega arith

      least : (e : ℕ) → 4096 < e + 1 → 4096 ≤ e
      least e l = omega arith

  entry_by_eight : Within w e 9
  entry_by_eight = record {
    low = le_trans E.low (under w m h);
    high = subst (λ (z : ℕ). w < z) (sym (sq_nine e)) (over (e * e) e w m (subst (λ (z : ℕ). 65536 * m < z) (sq_plus e) E.high) entry_least h);
  }
    where
      under : (w m : ℕ) → w / 65536 ≡ m → 65536 * m ≤ w
      under w m h = omega arith

      sq_nine : (x : ℕ) → (x + 9) * (x + 9) ≡ x * x + 18 * x + 81
      sq_nine x = add-mul x 9 (x + 9) ∙ ap (λ (y : ℕ). y + 9 * (x + 9)) (mul-add x x 9) ∙ rest (x * x) x
        where
          rest : (s x : ℕ) → s + x * 9 + 9 * (x + 9) ≡ s + 18 * x + 81
          rest s x = omega arith

      over : (s e w m : ℕ) → 65536 * m < s + 2 * e + 1 → 4096 ≤ e → w / 65536 ≡ m → w < s + 18 * e + 81
      over s e w m a b c = omega arith

  pub entry_within : Within w e 16
  entry_within = record { low = entry_by_eight.low; high = lt_of_lt_of_le entry_by_eight.high (mul-le-mul (more e) (more e)) }
    where
      more : (e : ℕ) → e + 9 ≤ e + 16
      more e = omega arith

-- after 13 digits, from the whole root of v's 26 leading digits
pub table_start : (v r : ℕ) → v < 2 ^ 54 → IsRoot (v / 2 ^ 28) r → Digits v (r * 2 ^ 42) ((v / 2 ^ 28 - r * r) * 2 ^ 41 + v % 2 ^ 28 * 2 ^ 13) (2 ^ 41)
table_start v r h R = record {
  root = r * 2 ^ 41;
  twice = omega arith;
  sum = ap (λ (z : ℕ). 2 ^ 41 * ((v / 2 ^ 28 - r * r) * 2 ^ 41 + v % 2 ^ 28 * 2 ^ 13) + z) (sq_moved r) ∙ sums (r * r) (v / 2 ^ 28) (v % 2 ^ 28) v R.low (div-add-mod' v (2 ^ 28));
  left = room (r * r) r (v / 2 ^ 28) (v % 2 ^ 28) (subst (λ (z : ℕ). v / 2 ^ 28 < z) (sq_plus r) R.high) (mod-lt v (pow_pos 28));
  short = h;
}
  where
    sq_moved : (r : ℕ) → r * 2 ^ 41 * (r * 2 ^ 41) ≡ r * r * 2 ^ 82
    sq_moved r = mul_assoc r (2 ^ 41) (r * 2 ^ 41) ∙ ap (λ (z : ℕ). r * z) (mul_left_comm (2 ^ 41) r (2 ^ 41)) ∙ sym (mul_assoc r r (2 ^ 82))

    sums : (s n t v : ℕ) → s ≤ n → n * 2 ^ 28 + t ≡ v → 2 ^ 41 * ((n - s) * 2 ^ 41 + t * 2 ^ 13) + s * 2 ^ 82 ≡ v * 2 ^ 54
    sums s n t v a b = omega arith

    room : (s r n t : ℕ) → n < s + 2 * r + 1 → t < 2 ^ 28 → (n - s) * 2 ^ 41 + t * 2 ^ 13 < r * 2 ^ 42 + 2 ^ 41
    room s r n t a b = omega arith

-- ---- a digit
module _ (v s y p : ℕ) (D : Digits v s y p) where
  pub twice_lt : s < 2 ^ 55
  twice_lt = doubled D.root s (sq_lt_back D.root (2 ^ 54) (under (p * y) (D.root * D.root) v D.sum D.short)) D.twice
    where
      under : (a r v : ℕ) → a + r ≡ v * 2 ^ 54 → v < 2 ^ 54 → r < 2 ^ 54 * 2 ^ 54
      under a r v e h = omega arith

      doubled : (r s : ℕ) → r < 2 ^ 54 → s ≡ 2 * r → s < 2 ^ 55
      doubled r s h e = omega arith

module _ (v s y b : ℕ) (D : Digits v s y (2 * b)) where
  digit_one : s + b ≤ y * 2 → Digits v (s + b + b) (y * 2 - (s + b)) b
  digit_one h = record {
    root = D.root + b;
    twice = omega (arith, D.twice);
    sum = sums (y * 2 - (s + b)) D.root (pays y s b h) D.twice D.sum;
    left = omega (arith, D.left);
    short = D.short;
  }
    where
      pays : (y s b : ℕ) → s + b ≤ y * 2 → y * 2 ≡ y * 2 - (s + b) + (s + b)
      pays y s b h = omega arith

      sq_sum : (r b : ℕ) → (r + b) * (r + b) ≡ r * r + b * r + (b * r + b * b)
      sq_sum r b = add-mul r b (r + b) ∙ ap (λ (z : ℕ). z + b * (r + b)) (mul-add r r b ∙ ap (λ (z : ℕ). r * r + z) (mul_comm r b)) ∙ ap (λ (z : ℕ). r * r + b * r + z) (mul-add b r b)

      total : (bd bs br bb yb rr q n : ℕ) → 2 * yb ≡ bd + (bs + bb) → bs ≡ 2 * br → q ≡ rr + br + (br + bb) → 2 * yb + rr ≡ n → bd + q ≡ n
      total bd bs br bb yb rr q n a c d e = omega arith

      sums : (d r : ℕ) → y * 2 ≡ d + (s + b) → s ≡ 2 * r → 2 * b * y + r * r ≡ v * 2 ^ 54 → b * d + (r + b) * (r + b) ≡ v * 2 ^ 54
      sums d r e t h = total (b * d) (b * s) (b * r) (b * b) (b * y) (r * r) ((r + b) * (r + b)) (v * 2 ^ 54) (sym (mul_left_comm b y 2 ∙ mul_comm y (b * 2) ∙ mul_right_comm b 2 y ∙ mul_comm (b * y) 2) ∙ ap (λ (z : ℕ). b * z) e ∙ mul-add b d (s + b) ∙ ap (λ (z : ℕ). b * d + z) (mul-add b s b)) (ap (λ (z : ℕ). b * z) t ∙ mul_left_comm b 2 r) (sq_sum r b) (ap (λ (z : ℕ). z + r * r) (sym (mul_assoc 2 b y)) ∙ h)

  digit_none : y * 2 < s + b → Digits v s (y * 2) b
  digit_none h = record { root = D.root; twice = D.twice; sum = ap (λ (z : ℕ). z + D.root * D.root) (mul_left_comm b y 2 ∙ mul_comm y (b * 2) ∙ ap (λ (z : ℕ). z * y) (mul_comm b 2)) ∙ D.sum; left = h; short = D.short }

  whole : (n : ℕ) → n ≡ n - 0
  whole n = omega arith

  by_test : (t : Bool) → (T t → y * 2 < s + b) → (T (not t) → s + b ≤ y * 2) → (cond t 0 (s + b) ≤ y * 2) × Digits v (cond t s (s + b + b)) (y * 2 - cond t 0 (s + b)) b
  by_test true a c = (zero-le, subst (λ (z : ℕ). Digits v s z b) (whole (y * 2)) (digit_none (a tt)))
  by_test false a c = (c tt, digit_one (c tt))

  pub digit_step : (cond (ltb (y * 2) (s + b)) 0 (s + b) ≤ y * 2) × Digits v (cond (ltb (y * 2) (s + b)) s (s + b + b)) (y * 2 - cond (ltb (y * 2) (s + b)) 0 (s + b)) b
  digit_step = by_test (ltb (y * 2) (s + b)) (ltb→lt (y * 2) (s + b)) (nltb→le (y * 2) (s + b))

-- ---- the loop: two digits a turn, down from the place 4 ^ k
pub record Turn (v s y b : ℕ) : Type 0 where
  pub k : ℕ
  pub place : b ≡ 4 ^ k / 2
  pub few : b ≤ 2 ^ 39
  pub digits : Digits v s y (4 ^ k)

pub first_turn : (v s y : ℕ) → Digits v s y (2 ^ 40) → Turn v s y (2 ^ 39)
first_turn v s y D = record { k = 20; place = refl; few = omega arith; digits = D }

pub end_turn : (v s y b : ℕ) → Turn v s y b → b ≤ 0 → s / 2 ≡ whole_root 54 (v * 2 ^ 54)
end_turn v s y b t h = go t.k t.place t.digits
  where
    none : (b p : ℕ) → b ≤ 0 → b ≡ p * 4 / 2 → 0 < p → ⊥
    none b p l e h = omega arith

    finish : Digits v s y 1 → s / 2 ≡ whole_root 54 (v * 2 ^ 54)
    finish D =
        let n = v * 2 ^ 54 in
        let r = D.root in
        let w = whole_root_lem 54 n (under v D.short) in
        half s r D.twice
        ∙ root_unique n r (whole_root 54 n) (lower y (r * r) n D.sum) (subst (λ (z : ℕ). n < z) (sym (sq_plus r)) (upper y (r * r) s r n D.sum D.twice D.left)) w.low w.high
      where
        under : (v : ℕ) → v < 2 ^ 54 → v * 2 ^ 54 < 4 ^ 54
        under v h = omega arith

        half : (s r : ℕ) → s ≡ 2 * r → s / 2 ≡ r
        half s r e = omega arith

        lower : (y q n : ℕ) → 1 * y + q ≡ n → q ≤ n
        lower y q n e = omega arith

        upper : (y q s r n : ℕ) → 1 * y + q ≡ n → s ≡ 2 * r → y < s + 1 → n < q + 2 * r + 1
        upper y q s r n e t h = omega arith

    go : (k : ℕ) → b ≡ 4 ^ k / 2 → Digits v s y (4 ^ k) → s / 2 ≡ whole_root 54 (v * 2 ^ 54)
    go zero e D = finish D
    go (suc k) e D = absurd (none b (4 ^ k) h (e ∙ ap (λ (z : ℕ). z / 2) (pow-suc 4 k)) (one-le-pow k 4 (zero-lt-suc 3)))

record Four (b n : ℕ) : Type 0 where
  j : ℕ
  is : n ≡ 4 ^ j * 4
  half : b ≡ 2 * 4 ^ j

module _ (v s y b : ℕ) (t : Turn v s y b) (h : 0 < b) where
  four : Four b (4 ^ t.k)
  four = go t.k t.place
    where
      none : (b : ℕ) → 0 < b → b ≡ 1 / 2 → ⊥
      none b h e = omega arith

      halved : (b p : ℕ) → b ≡ p * 4 / 2 → b ≡ 2 * p
      halved b p e = omega arith

      go : (k : ℕ) → b ≡ 4 ^ k / 2 → Four b (4 ^ k)
      go zero e = absurd (none b h e)
      go (suc k) e = record { j = k; is = pow-suc 4 k; half = halved b (4 ^ k) (e ∙ ap (λ (z : ℕ). z / 2) (pow-suc 4 k)) }

  pub in_turn : Digits v s y (2 * b)
  in_turn = subst (λ (z : ℕ). Digits v s y z) (same (4 ^ t.k) (4 ^ four.j) b four.is four.half) t.digits
    where
      same : (n p b : ℕ) → n ≡ p * 4 → b ≡ 2 * p → n ≡ 2 * b
      same n p b e f = omega arith

  pub half_turn : (s' y' : ℕ) → Digits v s' y' b → Digits v s' y' (2 * (b / 2))
  half_turn s' y' D = subst (λ (z : ℕ). Digits v s' y' z) (even b (4 ^ four.j) four.half) D
    where
      even : (b p : ℕ) → b ≡ 2 * p → b ≡ 2 * (b / 2)
      even b p e = omega arith

  pub next_turn : (s' y' : ℕ) → Digits v s' y' (b / 2) → Turn v s' y' (b / 4)
  next_turn s' y' D = record {
    k = four.j;
    place = quarter b (4 ^ four.j) four.half;
    few = less b t.few;
    digits = subst (λ (z : ℕ). Digits v s' y' z) (halves b (4 ^ four.j) four.half) D;
  }
    where
      quarter : (b p : ℕ) → b ≡ 2 * p → b / 4 ≡ p / 2
      quarter b p e = omega arith

      less : (b : ℕ) → b ≤ 2 ^ 39 → b / 4 ≤ 2 ^ 39
      less b h = omega arith

      halves : (b p : ℕ) → b ≡ 2 * p → b / 2 ≡ p
      halves b p e = omega arith
