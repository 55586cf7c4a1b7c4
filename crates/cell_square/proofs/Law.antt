-- A difference and its negative have one magnitude (`abs-turned`); |x| is the larger of x and 0 - x (`larger`); and the square of the smaller of |x| and
-- len - |x| is that of x - len * round(x / len) for an |x| below len (`square-law`). Assumes nothing.
use mathlib.Core.Path.{◌≡◌, refl, sym, ap, ◌∙◌, subst}
use mathlib.Core.Bool.{Bool, true, false, not, cond, ◌&&◌, ◌||◌, beq, false≢true, true≢false}
use Prim.Native.Nat.{ℕ, zero, suc, ◌+◌, ◌-◌, ◌*◌, ◌≤◌, ◌<◌}
use native.Mathlib.Nat.{mul-one, one-mul, zero-mul, mul_comm, mul_assoc, mul-pos, add_comm, zero-lt-suc, le_of_lt, mul-le-mul_right}
use native.Mathlib.Omega.{arith}
use lib.IntN.{ℤ}
use lib.Dec.{T, ltb, eqb, ltb→lt, lt→ltb, nltb→le, eqb→eq, not_T}
use lib.Ieee.{Float, nan, inf, fin, Format, binary64, up, down, neg, sum, add, sub, mul, lt, le, eq, fits, round, of_bits}
use lib.Ieee.Bits.{is_false, is_true}
use lib.Ieee.Fits.{down_pos, up_pos, sub-fits, and_l, and_r}
use lib.Ieee.Order.{round_mono}
use Rattle.float.specs.Def.{abs_of, negative}
use Rattle.float.specs.Arith.{◌⊖◌}
use Rattle.float.proofs.Branches.{zero+, yes, same, zero_left, zero_right, sign_fits, abs_low, abs_high}
use Rattle.float.proofs.Unique.{round_own, zero_exp}
use Rattle.float.proofs.Fraction.{sub_at, round_neg}
use Rattle.cell_axis.specs.Image.{nearest_of, shift_of}
use Rattle.cell_axis.proofs.Law.{near_law, above_zero, not_under_zero}
use Rattle.cell_axis.proofs.Double.{double_below, double_reaches}
use Rattle.cell_square.specs.Square.{square, smaller_of, SideSays}

-- ---- what does not ask for a sign: of a sum it sees the sum or the difference of the magnitudes
pub record Even (h : Float → Float) : Type 0 where
  pub is : (x : Float) → h (neg x) ≡ h x

pub abs_neg : (x : Float) → abs_of (neg x) ≡ abs_of x
unfolding abs_of neg
abs_neg nan = refl
abs_neg (inf s) = refl
abs_neg (fin s m e) = refl

abs_even : Even abs_of
abs_even = record { is = abs_neg }

pub square_neg : (x : Float) → square (neg x) ≡ square x
unfolding neg mul
square_neg nan = refl
square_neg (inf true) = refl
square_neg (inf false) = refl
square_neg (fin true m e) = refl
square_neg (fin false m e) = refl

square_even : Even square
square_even = record { is = square_neg }

abbrev gap : ℕ → ℕ → ℕ
gap a b = (a - b) + (b - a)

around : (a b : ℕ) → gap a b ≡ gap b a
around a b = omega arith

module _ (h : Float → Float) (w : Even h) (f : Format) where
  even_round : (s : Bool) (a c : ℕ) → h (round f s a c) ≡ h (round f false a c)
  even_round true a c = ap h (sym (round_neg f a c)) ∙ w.is (round f false a c)
  even_round false a c = refl

  even_sum : (s t : Bool) (a b c : ℕ) → h (sum f s a t b c) ≡ cond (beq s t) (h (round f false (a + b) c)) (h (round f false (gap a b) c))
  unfolding sum
  even_sum true true a b c = even_round true (a + b) c
  even_sum false false a b c = refl
  even_sum true false a b c = go (ltb a b) (ltb→lt a b) (nltb→le a b)
    where
      go : (x : Bool) → (T x → a < b) → (T (not x) → b ≤ a) → h (cond x (round f false (b - a) c) (round f (ltb b a) (a - b) c)) ≡ h (round f false ((a - b) + (b - a)) c)
      go true p q = ap (λ (z : ℕ). h (round f false z c)) (less a b (p tt))
        where
          less : (a b : ℕ) → a < b → b - a ≡ (a - b) + (b - a)
          less a b l = omega arith
      go false p q = even_round (ltb b a) (a - b) c ∙ ap (λ (z : ℕ). h (round f false z c)) (more a b (q tt))
        where
          more : (a b : ℕ) → b ≤ a → a - b ≡ (a - b) + (b - a)
          more a b l = omega arith
  even_sum false true a b c = go (ltb a b) (ltb→lt a b) (nltb→le a b)
    where
      go : (x : Bool) → (T x → a < b) → (T (not x) → b ≤ a) → h (cond x (round f true (b - a) c) (round f false (a - b) c)) ≡ h (round f false ((a - b) + (b - a)) c)
      go true p q = even_round true (b - a) c ∙ ap (λ (z : ℕ). h (round f false z c)) (less a b (p tt))
        where
          less : (a b : ℕ) → a < b → b - a ≡ (a - b) + (b - a)
          less a b l = omega arith
      go false p q = ap (λ (z : ℕ). h (round f false z c)) (more a b (q tt))
        where
          more : (a b : ℕ) → b ≤ a → a - b ≡ (a - b) + (b - a)
          more a b l = omega arith

  -- the two in either order, of turned signs
  even_turned : (s t : Bool) (a b c d : ℕ) → c ≡ d → h (sum f s a t b c) ≡ h (sum f (not t) b (not s) a d)
  even_turned s t a b c d e =
      even_sum s t a b c
      ∙ go s t
      ∙ sym (even_sum (not t) (not s) b a d)
    where
      both : (x : Bool) → cond x (h (round f false (a + b) c)) (h (round f false (gap a b) c)) ≡ cond x (h (round f false (b + a) d)) (h (round f false (gap b a) d))
      both true = ap (λ (z : ℕ). h (round f false z c)) (add_comm a b) ∙ ap (λ (z : ℕ). h (round f false (b + a) z)) e
      both false = ap (λ (z : ℕ). h (round f false z c)) (around a b) ∙ ap (λ (z : ℕ). h (round f false (gap b a) z)) e

      go : (s t : Bool) → cond (beq s t) (h (round f false (a + b) c)) (h (round f false (gap a b) c)) ≡ cond (beq (not t) (not s)) (h (round f false (b + a) d)) (h (round f false (gap b a) d))
      go true true = both true
      go true false = both false
      go false true = both false
      go false false = both true

-- ---- |a - b| is |b - a|
not_not : (s : Bool) → not (not s) ≡ s
not_not true = refl
not_not false = refl

pub abs_turned : (a b : Float) → abs_of (sub binary64 a b) ≡ abs_of (sub binary64 b a)
unfolding sub add neg abs_of
abs_turned nan nan = refl
abs_turned nan (inf t) = refl
abs_turned nan (fin t n d) = refl
abs_turned (inf s) nan = refl
abs_turned (inf true) (inf true) = refl
abs_turned (inf true) (inf false) = refl
abs_turned (inf false) (inf true) = refl
abs_turned (inf false) (inf false) = refl
abs_turned (inf s) (fin t n d) = refl
abs_turned (fin s m e) nan = refl
abs_turned (fin s m e) (inf t) = refl
abs_turned (fin s m e) (fin t n d) =
    even_turned abs_of abs_even binary64 s (not t) (m * up e * down d) (n * up d * down e) (down e * down d) (down d * down e) (mul_comm (down e) (down d))
    ∙ ap (λ (z : Bool). abs_of (sum binary64 z (n * up d * down e) (not s) (m * up e * down d) (down d * down e))) (not_not t)

-- ---- the larger of x and 0 - x
-- no magnitude is below its number
not_above : (x : Float) → lt (abs_of x) x ≡ true → ⊥
unfolding abs_of lt
not_above nan h = false≢true h
not_above (inf s) h = false≢true h
not_above (fin true m e) h = false≢true h
not_above (fin false m e) h = less (m * up e * down e) (ltb→lt (m * up e * down e) (m * up e * down e) (yes h))
  where
    less : (a : ℕ) → a < a → ⊥
    less a l = omega arith

pub under_zero : (m : ℕ) (e : ℤ) → le (fin true m e) zero+ ≡ true
unfolding abs_of negative
under_zero m e = go (le (fin true m e) zero+) refl
  where
    go : (b : Bool) → le (fin true m e) zero+ ≡ b → b ≡ true
    go true h = refl
    go false h = absurd (true≢false (ap negative (abs_high (fin true m e) h)))

minus_opened : (m : ℕ) (e : ℤ) → sub binary64 zero+ (fin false m e) ≡ sum binary64 false (0 * 1 * down e) true (m * up e * 1) (1 * down e)
unfolding sub
minus_opened m e = refl

sum_minus : (b c : ℕ) → 0 < b → sum binary64 false 0 true b c ≡ round binary64 true b c
unfolding sum
sum_minus b c h = rw (is_true (ltb 0 b) (lt→ltb 0 b h)) (ap (λ (z : ℕ). round binary64 true z c) (whole b))
  where
    whole : (b : ℕ) → b - 0 ≡ b
    whole b = omega arith

minus_fits : (m : ℕ) (e : ℤ) → T (fits binary64 (fin false (suc m) e)) → T (fits binary64 (fin true (suc m) e))
unfolding fits
minus_fits m e p = p

minus_own : (m : ℕ) (e : ℤ) → T (fits binary64 (fin false (suc m) e)) → sub binary64 zero+ (fin false (suc m) e) ≡ fin true (suc m) e
minus_own m e F =
    minus_opened (suc m) e
    ∙ ap (λ (z : ℕ). sum binary64 false z true (suc m * up e * 1) (1 * down e)) (zero-mul (down e))
    ∙ sum_minus (suc m * up e * 1) (1 * down e) (mul-pos (mul-pos (zero-lt-suc m) (up_pos e)) (zero-lt-suc 0))
    ∙ round_own binary64 (fin true (suc m) e) true (suc m * up e * 1) (1 * down e) (mul-pos (zero-lt-suc 0) (down_pos e)) (minus_fits m e F) (refl, regroup (suc m * up e) (down e))
  where
    regroup : (a d : ℕ) → a * (1 * d) ≡ a * 1 * d
    regroup a d = ap (λ (z : ℕ). a * z) (one-mul d) ∙ ap (λ (z : ℕ). z * d) (sym (mul-one a))

turned_below : (m : ℕ) (e : ℤ) → lt (fin true (suc m) e) (fin false (suc m) e) ≡ true
unfolding lt
turned_below m e = is_true (ltb 0 (suc m * up e * down e + suc m * up e * down e)) (lt→ltb 0 _ (more (suc m * up e * down e) (mul-pos (mul-pos (zero-lt-suc m) (up_pos e)) (down_pos e))))
  where
    more : (a : ℕ) → 0 < a → 0 < a + a
    more a h = omega arith

low_turned : (x : Float) → T (fits binary64 x) → le x zero+ ≡ true → (b : Bool) → lt (sub binary64 zero+ x) x ≡ b → cond b x (sub binary64 zero+ x) ≡ abs_of x
low_turned x F l true h = absurd (not_above x (subst (λ (z : Float). lt z x ≡ true) (abs_low x F l) h))
low_turned x F l false h = abs_low x F l

pub larger_is : (x : Float) → T (fits binary64 x) → (b : Bool) → lt (sub binary64 zero+ x) x ≡ b → cond b x (sub binary64 zero+ x) ≡ abs_of x
larger_is nan F true h = unfold abs_of in refl
larger_is nan F false h = unfold abs_of in unfold sub in refl
larger_is (inf true) F b h = low_turned (inf true) F (unfold le in refl) b h
larger_is (inf false) F true h = unfold abs_of in refl
larger_is (inf false) F false h = absurd (true≢false (unfold sub in unfold lt in h))
larger_is (fin true m e) F b h = low_turned (fin true m e) F (under_zero m e) b h
larger_is (fin false zero e) F true h = unfold abs_of in refl
larger_is (fin false zero e) F false h = low_turned (fin false zero e) F (subst (λ (z : ℤ). le (fin false zero z) zero+ ≡ true) (sym (zero_exp binary64 false e F)) (unfold le in refl)) false h
larger_is (fin false (suc m) e) F true h = unfold abs_of in refl
larger_is (fin false (suc m) e) F false h = absurd (true≢false (sym (turned_below m e) ∙ sym (ap (λ (z : Float). lt z (fin false (suc m) e)) (minus_own m e F)) ∙ h))

-- ---- two values in order: the second is not below the first
le_not_lt : (x : Float) (n : ℕ) (d : ℤ) → T (le (fin false n d) x) → T (lt x (fin false n d)) → ⊥
unfolding le lt eq
le_not_lt nan n d a b = b
le_not_lt (inf true) n d a b = a
le_not_lt (inf false) n d a b = b
le_not_lt (fin true m e) n d a b = go (n * up d * down e) (m * up e * down d) a b
  where
    clash : (p q : ℕ) → p ≡ q → p ≡ 0 → 0 < q + p → ⊥
    clash p q a b c = omega arith

    go : (p q : ℕ) → T (eqb p q && eqb p 0) → T (ltb 0 (q + p)) → ⊥
    go p q a b = clash p q (eqb→eq p q (and_l (eqb p q) (eqb p 0) a)) (eqb→eq p 0 (and_r (eqb p q) (eqb p 0) a)) (ltb→lt 0 (q + p) b)
le_not_lt (fin false m e) n d a b =
    let p = n * up d * down e in
    let q = m * up e * down d in
    go p q (ltb p q) (eqb p q) (ltb→lt p q) (eqb→eq p q) a (ltb→lt q p b)
  where
    less : (p q : ℕ) → p < q → q < p → ⊥
    less p q a b = omega arith

    level : (p q : ℕ) → p ≡ q → q < p → ⊥
    level p q a b = omega arith

    go : (p q : ℕ) (x y : Bool) → (T x → p < q) → (T y → p ≡ q) → T (x || (y && true)) → q < p → ⊥
    go p q true y g h t c = less p q (g tt) c
    go p q false true g h t c = level p q (h tt) c
    go p q false false g h t c = t

plus_opened : (s : Bool) (m : ℕ) (e : ℤ) → square (add binary64 (fin s m e) zero+) ≡ square (sum binary64 s (m * up e * 1) false (0 * 1 * down e) (down e * 1))
unfolding add
plus_opened s m e = refl

abbrev number_of : Float → ℕ
number_of nan = 0
number_of (inf s) = 0
number_of (fin s m e) = m

-- ---- the two squares, for x = ±m 2^e below len = n 2^d
module _ (m n : ℕ) (e d : ℤ) (G : T (fits binary64 (fin false m e))) (F : T (fits binary64 (fin false (suc n) d))) (h : m * up e * down d < suc n * up d * down e) where
  abbrev t : Float
  t = fin false m e

  abbrev len : Float
  len = fin false (suc n) d

  rest_is : sub binary64 len t ≡ round binary64 false (suc n * up d * down e - m * up e * down d) (down d * down e)
  rest_is = sub_at binary64 len t (suc n * up d) (down d) (m * up e) (down e) (down_pos d) (down_pos e) (refl, refl) (refl, refl) (le_of_lt h)

  own_is : round binary64 false (m * up e) (down e) ≡ t
  own_is = round_own binary64 (fin false m e) false (m * up e) (down e) (down_pos e) G (refl, refl)

  all : 0 < down d * down e
  all = mul-pos (down_pos d) (down_pos e)

  -- twice |x| is below len: |x| is the smaller
  first_least : 2 * (m * up e * down d) < suc n * up d * down e → T (le t (sub binary64 len t))
  first_least g =
      subst (λ (z : Float). T (le t z)) (sym rest_is)
      (subst (λ (z : Float). T (le z (round binary64 false (suc n * up d * down e - m * up e * down d) (down d * down e)))) own_is
      (round_mono binary64 (m * up e) (down e) (suc n * up d * down e - m * up e * down d) (down d * down e) (down_pos e) all
      (subst (λ (z : ℕ). z ≤ (suc n * up d * down e - m * up e * down d) * down e) (mul_assoc (m * up e) (down d) (down e)) (mul-le-mul_right (down e) (half (m * up e * down d) (suc n * up d * down e) g)))))
    where
      half : (p q : ℕ) → 2 * p < q → p ≤ q - p
      half p q g = omega arith

  -- it is not: the rest is
  rest_least : suc n * up d * down e ≤ 2 * (m * up e * down d) → T (le (sub binary64 len t) t)
  rest_least g =
      subst (λ (z : Float). T (le z t)) (sym rest_is)
      (subst (λ (z : Float). T (le (round binary64 false (suc n * up d * down e - m * up e * down d) (down d * down e)) z)) own_is
      (round_mono binary64 (suc n * up d * down e - m * up e * down d) (down d * down e) (m * up e) (down e) all (down_pos e)
      (subst (λ (z : ℕ). (suc n * up d * down e - m * up e * down d) * down e ≤ z) (mul_assoc (m * up e) (down d) (down e)) (mul-le-mul_right (down e) (half (m * up e * down d) (suc n * up d * down e) g)))))
    where
      half : (p q : ℕ) → q ≤ 2 * p → q - p ≤ p
      half p q g = omega arith

  not_null : suc n * up d * down e ≤ 2 * (m * up e * down d) → m ≡ 0 → ⊥
  not_null g z =
      clash (suc n * up d * down e) (m * up e * down d) (mul-pos (mul-pos (zero-lt-suc n) (up_pos d)) (down_pos e))
      (ap (λ (k : ℕ). k * up e * down d) z ∙ ap (λ (k : ℕ). k * down d) (zero-mul (up e)) ∙ zero-mul (down d)) g
    where
      clash : (q p : ℕ) → 0 < q → p ≡ 0 → q ≤ 2 * p → ⊥
      clash q p a b c = omega arith

  smaller_first : 2 * (m * up e * down d) < suc n * up d * down e → smaller_of len t ≡ t
  unfolding smaller_of
  smaller_first g = rw (is_false (lt (sub binary64 len t) t) (not_T (lt (sub binary64 len t) t) (le_not_lt (sub binary64 len t) m e (first_least g))))

  smaller_rest : suc n * up d * down e ≤ 2 * (m * up e * down d) → smaller_of len t ≡ sub binary64 len t
  unfolding smaller_of
  smaller_rest g = go (lt (sub binary64 len t) t) refl
    where
      go : (b : Bool) → lt (sub binary64 len t) t ≡ b → cond b (sub binary64 len t) t ≡ sub binary64 len t
      go true q = refl
      go false q =
          let w : T (eq (sub binary64 len t) t) = subst (λ (z : Bool). T (z || eq (sub binary64 len t) t)) q (unfold le in rest_least g) in
          sym (same (sub binary64 len t) t (sub-fits binary64 len t) G w
          (λ z. let u = zero_left (sub binary64 len t) false (sub-fits binary64 len t) z in
          let v = zero_right u.0 t G (subst (λ (y : Float). T (eq y t)) u.1 w) in
          not_null g (ap number_of v.1)))

  -- ---- x and the step that is added to it
  square_own : (s : Bool) → square (add binary64 (fin s m e) zero+) ≡ square t
  square_own s =
      plus_opened s m e
      ∙ even_sum square square_even binary64 s false (m * up e * 1) (0 * 1 * down e) (down e * 1)
      ∙ ap (λ (z : ℕ). cond (beq s false) (square (round binary64 false (m * up e * 1 + z) (down e * 1))) (square (round binary64 false (gap (m * up e * 1) z) (down e * 1)))) (zero-mul (down e))
      ∙ either (beq s false)
    where
      flat : (a b : ℕ) → a * (b * 1) ≡ a * 1 * b
      flat a b = simp (mul-one)

      own : round binary64 false (m * up e * 1) (down e * 1) ≡ fin false m e
      own = round_own binary64 (fin false m e) false (m * up e * 1) (down e * 1) (mul-pos (down_pos e) (zero-lt-suc 0)) G (refl, flat (m * up e) (down e))

      plus : (a : ℕ) → a + 0 ≡ a
      plus a = omega arith

      none : (a : ℕ) → gap a 0 ≡ a
      none a = omega arith

      either : (b : Bool) → cond b (square (round binary64 false (m * up e * 1 + 0) (down e * 1))) (square (round binary64 false (gap (m * up e * 1) 0) (down e * 1))) ≡ square (fin false m e)
      either true = ap (λ (z : ℕ). square (round binary64 false z (down e * 1))) (plus (m * up e * 1)) ∙ ap square own
      either false = ap (λ (z : ℕ). square (round binary64 false z (down e * 1))) (none (m * up e * 1)) ∙ ap square own

  square_step : (s : Bool) → square (add binary64 (fin s m e) (fin (not s) (suc n) d)) ≡ square (sub binary64 len t)
  unfolding sub neg add
  square_step true =
      even_sum square square_even binary64 true false (m * up e * down d) (suc n * up d * down e) (down e * down d)
      ∙ ap (λ (z : ℕ). square (round binary64 false z (down e * down d))) (around (m * up e * down d) (suc n * up d * down e))
      ∙ ap (λ (z : ℕ). square (round binary64 false (gap (suc n * up d * down e) (m * up e * down d)) z)) (mul_comm (down e) (down d))
      ∙ sym (even_sum square square_even binary64 false true (suc n * up d * down e) (m * up e * down d) (down d * down e))
  square_step false = even_turned square square_even binary64 false true (m * up e * down d) (suc n * up d * down e) (down e * down d) (down d * down e) (mul_comm (down e) (down d))

  pub picked : (s : Bool) → suc n * up d * down e ≤ 2 * (m * up e * down d) → cond (le (fin s m e) zero+) len (neg len) ≡ fin (not s) (suc n) d
  unfolding neg
  picked true g = rw (under_zero m e)
  picked false g = positive m (not_null g)
    where
      positive : (k : ℕ) → (k ≡ 0 → ⊥) → cond (le (fin false k e) zero+) (fin false (suc n) d) (neg (fin false (suc n) d)) ≡ fin true (suc n) d
      positive zero p = absurd (p refl)
      positive (suc k) p = rw (above_zero k e)

  both : (s b : Bool) → lt (add binary64 t t) len ≡ b → square (smaller_of len t) ≡ square (add binary64 (fin s m e) (cond b zero+ (cond (le (fin s m e) zero+) len (neg len))))
  both s true q =
      let g = double_below binary64 m n e d F (q) in
      ap square (smaller_first g) ∙ sym (square_own s)
  both s false q =
      let g = double_reaches binary64 m n e d G F (q) in
      ap square (smaller_rest g) ∙ sym (square_step s) ∙ ap (λ (z : Float). square (add binary64 (fin s m e) z)) (sym (picked s g))

  pub square_fin : (s : Bool) → square (smaller_of len t) ≡ square (add binary64 (fin s m e) (shift_of t len (fin s m e)))
  unfolding shift_of of_bits
  square_fin s = both s (lt (add binary64 t t) len) refl

by_len : (l y : Float) (s : Bool) (m : ℕ) (e : ℤ) → T (fits binary64 (fin s m e)) → T (fits binary64 l) → lt (fin false m e) l ≡ true → lt l y ≡ true
    → square (smaller_of l (fin false m e)) ≡ square (add binary64 (fin s m e) (shift_of (fin false m e) l (fin s m e)))
unfolding lt
by_len nan y s m e G F h k = absurd (false≢true h)
by_len (inf true) y s m e G F h k = absurd (false≢true h)
by_len (inf false) nan s m e G F h k = absurd (false≢true k)
by_len (inf false) (inf u) s m e G F h k = absurd (false≢true k)
by_len (inf false) (fin u q g) s m e G F h k = absurd (false≢true k)
by_len (fin true n d) y s m e G F h k = absurd (false≢true h)
by_len (fin false zero d) y s m e G F h k = absurd (not_under_zero (m * up e * down d) (up d) (down e) (ltb→lt (m * up e * down d) (0 * up d * down e) (yes h)))
by_len (fin false (suc n) d) y s m e G F h k = square_fin m n e d (sign_fits s m e G) F (ltb→lt (m * up e * down d) (suc n * up d * down e) (yes h)) s

inf_not_below : (l : Float) → lt (inf false) l ≡ true → ⊥
unfolding lt
inf_not_below nan h = false≢true h
inf_not_below (inf u) h = false≢true h
inf_not_below (fin u n d) h = false≢true h

pub by_number : (l x y : Float) → T (fits binary64 l) → T (fits binary64 x) → lt (abs_of x) l ≡ true → lt l y ≡ true → square (smaller_of l (abs_of x)) ≡ square (add binary64 x (shift_of (abs_of x) l x))
unfolding abs_of
by_number l nan y F G h k = absurd (false≢true (unfold lt in h))
by_number l (inf s) y F G h k = absurd (inf_not_below l h)
by_number l (fin s m e) y F G h k = by_len l y s m e G F h k

pub square_law : (l x y : Float) → T (fits binary64 l) → T (fits binary64 x) → lt (abs_of x) l ≡ true → lt l y ≡ true → square (smaller_of l (abs_of x)) ≡ square (nearest_of l x)
square_law l x y F G h k = by_number l x y F G h k ∙ ap square (near_law l x y F G h k)

-- as the code has it, of either difference
pub either_way : (l a b y : Float) → T (fits binary64 l) → (rising : Bool) → lt (abs_of (a ⊖ b)) l ≡ true → lt l y ≡ true → square (smaller_of l (abs_of (a ⊖ b))) ≡ square (nearest_of l (cond rising (a ⊖ b) (b ⊖ a)))
either_way l a b y F true h k = square_law l (a ⊖ b) y F (sub-fits binary64 a b) h k
either_way l a b y F false h k =
    ap (λ (z : Float). square (smaller_of l z)) (abs_turned a b)
    ∙ square_law l (b ⊖ a) y F (sub-fits binary64 b a) (subst (λ (z : Float). lt z l ≡ true) (abs_turned a b) h) k

pub picked_is : (l t u : Float) → t ≡ u → (b : Bool) → lt (l ⊖ t) t ≡ b → cond b (l ⊖ t) t ≡ smaller_of l u
unfolding smaller_of
picked_is l t u e b h = rw (← e, h)

pub side_says : (l a b r : Float) → T (fits binary64 l) → r ≡ smaller_of l (abs_of (a ⊖ b)) → SideSays l a b r
side_says l a b r F e = record { is = e; image = λ rising h k. ap square e ∙ either_way l a b (inf false) F rising h k }
