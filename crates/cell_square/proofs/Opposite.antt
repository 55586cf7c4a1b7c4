-- Two floats of which one is the other's negative, or both are zeros, have one square and one magnitude; differences the other way round, sums, products
-- and the images of fractions keep that. Assumes nothing.
use mathlib.Core.Path.{◌≡◌, refl, sym, ap, ◌∙◌}
use mathlib.Core.Logic.{◌⊎◌, inl, inr}
use mathlib.Core.Bool.{Bool, true, false, not, cond, true≢false}
use Prim.Native.Nat.{ℕ, zero, suc, ◌+◌, ◌-◌, ◌*◌, ◌≤◌, ◌<◌}
use native.Mathlib.Nat.{mul_comm, mul-pos, add_comm, zero-lt-suc, le_of_eq, le_trans, mul-le-mul_right, le_of_mul-le-mul_right}
use native.Mathlib.Omega.{arith}
use lib.IntN.{ℤ, pos}
use lib.Dec.{T, eqb}
use lib.Ieee.{Float, nan, inf, fin, binary64, up, down, neg, add, sub, mul, lt, le, fits, round, unlike, of_bits}
use lib.Ieee.Fits.{down_pos}
use lib.Ieee.Scale.{finite, round_same}
use lib.Ieee.Positive.{den, den_pos}
use Rattle.float.specs.Def.{abs_of}
use Rattle.float.specs.Arith.{◌⊕◌, ◌⊖◌, ◌⊗◌, bits}
use Rattle.float.proofs.Branches.{zero+, IsZero}
use Rattle.float.proofs.Unique.{zero_exp}
use Rattle.float.proofs.Fraction.{round_neg}
use Rattle.cell_axis.specs.Image.{shift_of, near_axis_of}
use Rattle.cell_axis.proofs.Law.{above_zero}
use Rattle.cell_square.specs.Square.{square}
use Rattle.cell_square.proofs.Law.{square_neg, abs_neg, under_zero}
use Rattle.cell_square.proofs.Keeps.{plus_of, minus_of, Rounded, sub_mul, add_rounded, split, turned}

abbrev pub Opposite : Float → Float → Type 0
Opposite x y = (y ≡ neg x) ⊎ (IsZero x × IsZero y)

neg_neg : (x : Float) → neg (neg x) ≡ x
unfolding neg
neg_neg nan = refl
neg_neg (inf true) = refl
neg_neg (inf false) = refl
neg_neg (fin true m e) = refl
neg_neg (fin false m e) = refl

-- ---- rounded
ends : (s : Bool) → round binary64 s 0 1 ≡ fin s 0 (pos 0)
unfolding round
ends true = refl
ends false = refl

pub null : (x : Float) (s : Bool) (a c : ℕ) → x ≡ round binary64 s a c → 0 < c → a ≡ 0 → IsZero x
null x s a c e C h = (s, e ∙ round_same binary64 s a c 0 1 C (zero-lt-suc 0) (none a c h) ∙ ends s)
  where
    none : (a c : ℕ) → a ≡ 0 → a * 1 ≡ 0 * c
    none a c h = omega arith

crossed : (p q c p' q' c' : ℕ) → p' * c ≡ q * c' → q' * c ≡ p * c' → (p - q) * c' ≡ (q' - p') * c
crossed p q c p' q' c' e f = omega (arith, sub_mul p q c', sub_mul q' p' c, e, f)

no_more : (p q c p' q' c' : ℕ) → 0 < c → q ≤ p → p' * c ≡ q * c' → q' * c ≡ p * c' → p' ≤ q'
no_more p q c p' q' c' C h e f = le_of_mul-le-mul_right (le_trans (le_of_eq e) (le_trans (mul-le-mul_right c' h) (le_of_eq (sym f)))) C

pub rounded_opposite : (x y : Float) (p q c p' q' c' : ℕ) → 0 < c → 0 < c' → Rounded x p q c → Rounded y p' q' c' → p' * c ≡ q * c' → q' * c ≡ p * c' → Opposite x y
rounded_opposite x y p q c p' q' c' C D (inl u) (inl v) e f =
    inr (null x false (p - q) c u.1 C (omega (arith, no_more p' q' c' p q c D v.0 (sym f) (sym e))), null y false (p' - q') c' v.1 D (omega (arith, no_more p q c p' q' c' C u.0 e f)))
rounded_opposite x y p q c p' q' c' C D (inl u) (inr v) e f =
    inl (v.1 ∙ sym (round_neg binary64 (q' - p') c') ∙ ap neg (sym (round_same binary64 false (p - q) c (q' - p') c' C D (crossed p q c p' q' c' e f))) ∙ ap neg (sym u.1))
rounded_opposite x y p q c p' q' c' C D (inr u) (inl v) e f =
    inl (v.1 ∙ sym (round_same binary64 false (q - p) c (p' - q') c' C D (crossed q p c q' p' c' f e)) ∙ sym (neg_neg (round binary64 false (q - p) c)) ∙ ap neg (round_neg binary64 (q - p) c) ∙ ap neg (sym u.1))
rounded_opposite x y p q c p' q' c' C D (inr u) (inr v) e f =
    inr (null x true (q - p) c u.1 C (omega (arith, no_more q' p' c' q p c D v.0 (sym e) (sym f))), null y true (q' - p') c' v.1 D (omega (arith, no_more q p c q' p' c' C u.0 f e)))

-- ---- finite numbers
pub record Mirror (x y : Float) : Type 0 where
  pub left : T (finite x)
  pub right : T (finite y)
  pub plus : plus_of y * den x ≡ minus_of x * den y
  pub minus : minus_of y * den x ≡ plus_of x * den y

mirror_neg : (s : Bool) (m : ℕ) (e : ℤ) → Mirror (fin s m e) (neg (fin s m e))
unfolding neg
mirror_neg true m e = record { left = tt; right = tt; plus = refl; minus = refl }
mirror_neg false m e = record { left = tt; right = tt; plus = refl; minus = refl }

mirror_zero : (s t : Bool) → Mirror (fin s 0 (pos 0)) (fin t 0 (pos 0))
mirror_zero true true = record { left = tt; right = tt; plus = refl; minus = refl }
mirror_zero true false = record { left = tt; right = tt; plus = refl; minus = refl }
mirror_zero false true = record { left = tt; right = tt; plus = refl; minus = refl }
mirror_zero false false = record { left = tt; right = tt; plus = refl; minus = refl }

both_sums : (a b u v A B u' v' : ℕ) → A * u ≡ a * u' → B * v ≡ b * v' → (A * v' + B * u') * (u * v) ≡ (a * v + b * u) * (u' * v')
both_sums a b u v A B u' v' e f = turned A B u v u' v' ∙ ap (λ (z : ℕ). z * (v * v') + B * v * (u * u')) e ∙ ap (λ (z : ℕ). a * u' * (v * v') + z * (u * u')) f ∙ sym (split a b u v u' v')

mirror_sum : (x y x' y' : Float) → Mirror x x' → Mirror y y' → Opposite (x ⊕ y) (x' ⊕ y')
mirror_sum x y x' y' h k =
    rounded_opposite (x ⊕ y) (x' ⊕ y')
    (plus_of x * den y + plus_of y * den x) (minus_of x * den y + minus_of y * den x) (den x * den y)
    (plus_of x' * den y' + plus_of y' * den x') (minus_of x' * den y' + minus_of y' * den x') (den x' * den y')
    (mul-pos (den_pos x) (den_pos y)) (mul-pos (den_pos x') (den_pos y')) (add_rounded x y h.left k.left) (add_rounded x' y' h.right k.right)
    (both_sums (minus_of x) (minus_of y) (den x) (den y) (plus_of x') (plus_of y') (den x') (den y') h.plus k.plus)
    (both_sums (plus_of x) (plus_of y) (den x) (den y) (minus_of x') (minus_of y') (den x') (den y') h.minus k.minus)

-- ---- sums
sum_neg : (x y : Float) → Opposite (x ⊕ y) (neg x ⊕ neg y)
sum_neg nan y = inl (unfold add in unfold neg in refl)
sum_neg (inf s) nan = inl (unfold add in unfold neg in refl)
sum_neg (inf true) (inf true) = inl (unfold add in unfold neg in refl)
sum_neg (inf true) (inf false) = inl (unfold add in unfold neg in refl)
sum_neg (inf false) (inf true) = inl (unfold add in unfold neg in refl)
sum_neg (inf false) (inf false) = inl (unfold add in unfold neg in refl)
sum_neg (inf s) (fin t n d) = inl (unfold add in unfold neg in refl)
sum_neg (fin s m e) nan = inl (unfold add in unfold neg in refl)
sum_neg (fin s m e) (inf t) = inl (unfold add in unfold neg in refl)
sum_neg (fin s m e) (fin t n d) = mirror_sum (fin s m e) (fin t n d) (neg (fin s m e)) (neg (fin t n d)) (mirror_neg s m e) (mirror_neg t n d)

sum_null_right : (x : Float) (s t : Bool) → Opposite (x ⊕ fin s 0 (pos 0)) (neg x ⊕ fin t 0 (pos 0))
sum_null_right nan s t = inl (unfold add in unfold neg in refl)
sum_null_right (inf u) s t = inl (unfold add in unfold neg in refl)
sum_null_right (fin u m e) s t = mirror_sum (fin u m e) (fin s 0 (pos 0)) (neg (fin u m e)) (fin t 0 (pos 0)) (mirror_neg u m e) (mirror_zero s t)

sum_null_left : (x : Float) (s t : Bool) → Opposite (fin s 0 (pos 0) ⊕ x) (fin t 0 (pos 0) ⊕ neg x)
sum_null_left nan s t = inl (unfold add in unfold neg in refl)
sum_null_left (inf u) s t = inl (unfold add in unfold neg in refl)
sum_null_left (fin u m e) s t = mirror_sum (fin s 0 (pos 0)) (fin u m e) (fin t 0 (pos 0)) (neg (fin u m e)) (mirror_zero s t) (mirror_neg u m e)

pub opposite_sum : (x y x' y' : Float) → Opposite x x' → Opposite y y' → Opposite (x ⊕ y) (x' ⊕ y')
opposite_sum x y x' y' (inl e) (inl f) = rw (e, f) (sum_neg x y)
opposite_sum x y x' y' (inl e) (inr f) = rw (e, f.0.1, f.1.1) (sum_null_right x f.0.0 f.1.0)
opposite_sum x y x' y' (inr e) (inl f) = rw (f, e.0.1, e.1.1) (sum_null_left y e.0.0 e.1.0)
opposite_sum x y x' y' (inr e) (inr f) =
    rw (e.0.1, e.1.1, f.0.1, f.1.1) (mirror_sum (fin e.0.0 0 (pos 0)) (fin f.0.0 0 (pos 0)) (fin e.1.0 0 (pos 0)) (fin f.1.0 0 (pos 0)) (mirror_zero e.0.0 e.1.0) (mirror_zero f.0.0 f.1.0))

-- ---- a difference and the other way round
plus_neg : (s : Bool) (m : ℕ) (e : ℤ) → plus_of (neg (fin s m e)) ≡ minus_of (fin s m e)
unfolding neg
plus_neg true m e = refl
plus_neg false m e = refl

minus_neg : (s : Bool) (m : ℕ) (e : ℤ) → minus_of (neg (fin s m e)) ≡ plus_of (fin s m e)
unfolding neg
minus_neg true m e = refl
minus_neg false m e = refl

den_neg : (x : Float) → den (neg x) ≡ den x
unfolding neg
den_neg nan = refl
den_neg (inf s) = refl
den_neg (fin s m e) = refl

finite_neg : (s : Bool) (m : ℕ) (e : ℤ) → T (finite (neg (fin s m e)))
unfolding neg
finite_neg s m e = tt

sum_swapped : (s t : Bool) (m n : ℕ) (e d : ℤ) → Opposite (fin s m e ⊕ neg (fin t n d)) (fin t n d ⊕ neg (fin s m e))
sum_swapped s t m n e d =
    let a = fin s m e in
    let b = fin t n d in
    rounded_opposite (a ⊕ neg b) (b ⊕ neg a)
    (plus_of a * den (neg b) + plus_of (neg b) * den a) (minus_of a * den (neg b) + minus_of (neg b) * den a) (den a * den (neg b))
    (plus_of b * den (neg a) + plus_of (neg a) * den b) (minus_of b * den (neg a) + minus_of (neg a) * den b) (den b * den (neg a))
    (mul-pos (den_pos a) (den_pos (neg b))) (mul-pos (den_pos b) (den_pos (neg a)))
    (add_rounded a (neg b) tt (finite_neg t n d)) (add_rounded b (neg a) tt (finite_neg s m e))
    (rw (plus_neg s m e, minus_neg t n d, den_neg a, den_neg b) (around (plus_of b) (minus_of a) (down e) (down d)))
    (rw (minus_neg s m e, plus_neg t n d, den_neg a, den_neg b) (around (minus_of b) (plus_of a) (down e) (down d)))
  where
    around : (B A u v : ℕ) → (B * u + A * v) * (u * v) ≡ (A * v + B * u) * (v * u)
    around B A u v = ap (λ (z : ℕ). z * (u * v)) (add_comm (B * u) (A * v)) ∙ ap (λ (z : ℕ). (A * v + B * u) * z) (mul_comm u v)

pub opposite_sub : (a b : Float) → Opposite (a ⊖ b) (b ⊖ a)
unfolding sub
opposite_sub nan nan = inl (unfold add in unfold neg in refl)
opposite_sub nan (inf t) = inl (unfold add in unfold neg in refl)
opposite_sub nan (fin t n d) = inl (unfold add in unfold neg in refl)
opposite_sub (inf s) nan = inl (unfold add in unfold neg in refl)
opposite_sub (inf true) (inf true) = inl (unfold add in unfold neg in refl)
opposite_sub (inf true) (inf false) = inl (unfold add in unfold neg in refl)
opposite_sub (inf false) (inf true) = inl (unfold add in unfold neg in refl)
opposite_sub (inf false) (inf false) = inl (unfold add in unfold neg in refl)
opposite_sub (inf s) (fin t n d) = inl (unfold add in unfold neg in refl)
opposite_sub (fin s m e) nan = inl (unfold add in unfold neg in refl)
opposite_sub (fin s m e) (inf true) = inl (unfold add in unfold neg in refl)
opposite_sub (fin s m e) (inf false) = inl (unfold add in unfold neg in refl)
opposite_sub (fin s m e) (fin t n d) = sum_swapped s t m n e d

-- ---- products with one number
infinite_neg : (b s t : Bool) → cond b nan (inf (unlike s (not t))) ≡ neg (cond b nan (inf (unlike s t)))
unfolding neg
infinite_neg true s t = refl
infinite_neg false true true = refl
infinite_neg false true false = refl
infinite_neg false false true = refl
infinite_neg false false false = refl

round_turned : (s t : Bool) (a c : ℕ) → round binary64 (unlike s (not t)) a c ≡ neg (round binary64 (unlike s t) a c)
round_turned true true a c = sym (round_neg binary64 a c)
round_turned true false a c = sym (neg_neg (round binary64 false a c)) ∙ ap neg (round_neg binary64 a c)
round_turned false true a c = sym (neg_neg (round binary64 false a c)) ∙ ap neg (round_neg binary64 a c)
round_turned false false a c = sym (round_neg binary64 a c)

product_neg : (c x : Float) → c ⊗ neg x ≡ neg (c ⊗ x)
unfolding mul
product_neg nan x = unfold neg in refl
product_neg (inf s) nan = unfold neg in refl
product_neg (inf s) (inf t) = unfold neg in infinite_neg false s t
product_neg (inf s) (fin t n d) = unfold neg in infinite_neg (eqb n 0) s t
product_neg (fin s m e) nan = unfold neg in refl
product_neg (fin s m e) (inf t) = unfold neg in infinite_neg (eqb m 0) s t
product_neg (fin s m e) (fin t n d) = unfold neg in round_turned s t (m * up e * (n * up d)) (down e * down d)

product_null : (c : Float) (s t : Bool) → Opposite (c ⊗ fin s 0 (pos 0)) (c ⊗ fin t 0 (pos 0))
unfolding mul
product_null nan s t = inl (unfold neg in refl)
product_null (inf u) s t = inl (unfold neg in refl)
product_null (fin u m e) s t =
    inr (null _ (unlike u s) (m * up e * (0 * 1)) (down e * 1) refl (mul-pos (down_pos e) (zero-lt-suc 0)) (omega arith), null _ (unlike u t) (m * up e * (0 * 1)) (down e * 1) refl (mul-pos (down_pos e) (zero-lt-suc 0)) (omega arith))

pub opposite_product : (c x y : Float) → Opposite x y → Opposite (c ⊗ x) (c ⊗ y)
opposite_product c x y (inl e) = inl (ap (λ (z : Float). c ⊗ z) e ∙ product_neg c x)
opposite_product c x y (inr e) = rw (e.0.1, e.1.1) (product_null c e.0.0 e.1.0)

-- ---- magnitude and square
pub opposite_abs : (x y : Float) → Opposite x y → abs_of y ≡ abs_of x
opposite_abs x y (inl e) = ap abs_of e ∙ abs_neg x
opposite_abs x y (inr e) = rw (e.0.1, e.1.1) (unfold abs_of in refl)

pub opposite_square : (x y : Float) → Opposite x y → square x ≡ square y
opposite_square x y (inl e) = sym (ap square e ∙ square_neg x)
opposite_square x y (inr e) = rw (e.0.1, e.1.1) (same e.0.0 e.1.0)
  where
    same : (s t : Bool) → square (fin s 0 (pos 0)) ≡ square (fin t 0 (pos 0))
    same true true = refl
    same true false = unfold mul in refl
    same false true = unfold mul in refl
    same false false = refl

-- a difference with a step, and the other way round
pub stepped_square : (a b p : Float) → square (b ⊖ a ⊖ p) ≡ square (a ⊖ b ⊕ p)
unfolding sub
stepped_square a b p = sym (opposite_square (a ⊖ b ⊕ p) (b ⊖ a ⊖ p) (opposite_sum (a ⊖ b) p (b ⊖ a) (neg p) (opposite_sub a b) (inl refl)))

-- ---- the image of a fraction
abbrev one : Float
one = bits 0x3ff0_0000_0000_0000

-- .. of which twice the magnitude does not reach 1, where it is 0
null_half : lt (zero+ ⊕ zero+) one ≡ true
unfolding of_bits add lt
null_half = refl

positive_up : (m : ℕ) (e : ℤ) → le (neg (fin true (suc m) e)) zero+ ≡ false
unfolding neg
positive_up m e = above_zero m e

negative_down : (m : ℕ) (e : ℤ) → le (neg (fin false (suc m) e)) zero+ ≡ true
unfolding neg
negative_down m e = under_zero (suc m) e

null_sum : (s : Bool) (e : ℤ) → T (fits binary64 (fin s zero e)) → lt (abs_of (fin s zero e) ⊕ abs_of (fin s zero e)) one ≡ true
unfolding abs_of
null_sum s e F = ap (λ (z : ℤ). lt (fin false zero z ⊕ fin false zero z) one) (zero_exp binary64 s e F) ∙ null_half

away : (x : Float) → T (fits binary64 x) → lt (abs_of x) one ≡ true → lt (abs_of x ⊕ abs_of x) one ≡ false → Opposite (cond (le x zero+) one (neg one)) (cond (le (neg x) zero+) one (neg one))
unfolding of_bits
away nan F k h = absurd (true≢false (sym k ∙ unfold abs_of in unfold lt in refl))
away (inf true) F k h = inl (unfold le in unfold neg in refl)
away (inf false) F k h = inl (unfold le in unfold neg in refl)
away (fin s zero e) F k h = absurd (true≢false (sym (null_sum s e F) ∙ h))
away (fin true (suc m) e) F k h = rw (under_zero (suc m) e, positive_up m e) (inl refl)
away (fin false (suc m) e) F k h = rw (above_zero m e, negative_down m e) (inl (sym (neg_neg one)))

null_shift : Opposite (bits 0) (bits 0)
unfolding of_bits
null_shift = inr ((false, refl), (false, refl))

null_below : (x : Float) → IsZero x → lt (abs_of x ⊕ abs_of x) one ≡ true
unfolding abs_of
null_below x z = rw z.1 null_half

shifts : (x y : Float) → T (fits binary64 x) → lt (abs_of x) one ≡ true → Opposite x y → (b : Bool) → lt (abs_of x ⊕ abs_of x) one ≡ b → Opposite (cond b (bits 0) (cond (le x zero+) one (neg one))) (cond b (bits 0) (cond (le y zero+) one (neg one)))
shifts x y F k o true h = null_shift
shifts x y F k (inl e) false h = rw e (away x F k h)
shifts x y F k (inr e) false h = absurd (true≢false (sym (null_below x e.0) ∙ h))

shift_opposite : (x y : Float) → T (fits binary64 x) → lt (abs_of x) one ≡ true → Opposite x y → Opposite (shift_of (abs_of x) one x) (shift_of (abs_of x) one y)
unfolding shift_of of_bits
shift_opposite x y F k o = shifts x y F k o (lt (abs_of x ⊕ abs_of x) one) refl

pub near_opposite : (x y : Float) → T (fits binary64 x) → lt (abs_of x) one ≡ true → Opposite x y → Opposite (near_axis_of (abs_of x) one x) (near_axis_of (abs_of y) one y)
unfolding near_axis_of
near_opposite x y F k o = rw (opposite_abs x y o) (opposite_sum x (shift_of (abs_of x) one x) y (shift_of (abs_of x) one y) o (shift_opposite x y F k o))

-- ---- three products
pub opposite_three : (a b c x y z x' y' z' : Float) → Opposite x x' → Opposite y y' → Opposite z z' → Opposite (a ⊗ x ⊕ b ⊗ y ⊕ c ⊗ z) (a ⊗ x' ⊕ b ⊗ y' ⊕ c ⊗ z')
opposite_three a b c x y z x' y' z' p q r =
    opposite_sum (a ⊗ x ⊕ b ⊗ y) (c ⊗ z) (a ⊗ x' ⊕ b ⊗ y') (c ⊗ z') (opposite_sum (a ⊗ x) (b ⊗ y) (a ⊗ x') (b ⊗ y') (opposite_product a x x' p) (opposite_product b y y' q)) (opposite_product c z z' r)
