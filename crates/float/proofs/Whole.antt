-- Rounding to a whole number. Adding 2 ^ 52 to an x from 0 up and below 2 ^ 52, and taking it off again, leaves a whole number next to x (`shifted`). Assumes nothing.
use Rattle.std.proofs.Common.{◌≡◌, ℕ, zero, suc, ◌+◌, ◌-◌, ◌*◌, ◌/◌, ◌%◌, ◌^◌, ◌<◌, ◌≤◌, Bool, true, false, cond, not, ◌&&◌, ◌||◌, T, eqb, ltb, ℤ, pos, negsuc, sym, refl, ap, ◌∙◌, subst, true≢false, zero-le, le_trans, le_of_eq, lt_of_lt_of_le, lt_of_le_of_lt, mul-le-mul_right, mod-lt, zero-lt-suc, mul_assoc, suc-mul, mul_comm, div-lt_iff_lt-mul, le_antisymm, mul-lt-mul_of_pos_right, mul-pos, one-mul, lt_of_not-le, div-add-mod', le-div_iff_mul-le, zero-mul, mul-one, mul_right_comm, not-le_of_lt, div-mul-le_self, div-one, mul_left_comm, arith, lit<, eqb→eq, ltb→lt, lt→ltb, nltb→le, pow_pos, pow_mono, pow-add}
use Prim.Native.Nat.{compare}
use native.Mathlib.Nat.{le-suc, add-mul-div_right, zero-div, pow-succ', mod-one, mod-le, zero-mod}
use mathlib.Core.Bool.{false≢true, beq}
use lib.Dec.{not_T, eqb_refl}
use lib.Arith.{digits_div}
use lib.Pow.{pow-lt}
use lib.Ieee.{Float, nan, inf, fin, Format, binary32, binary64, prec, emax, low, up, down, size, neg, add, sub, lt, eq, round, fits}
use lib.Ieee.Digits.{size-lt, size-le}
use lib.Ieee.Fits.{nearest-le, down_pos, up_pos, and_l}
use lib.Ieee.Nearest.{nearest-ge, closest, div_same}
use lib.Ieee.Exact.{HasValue, round_exact}
use lib.Ieee.Order.{drop}
use lib.Ieee.Scale.{grid, overflow, round_val}
use lib.Ieee.Back.{round_whole}
use Rattle.float.specs.Def.{abs_of, negative, whole_of, trunc_of, floor_of, round_of, ceil_div}
use Rattle.float.specs.Steps.{sign_of, half_up}
use Rattle.float.proofs.Unique.{round_own, holds, zero_exp, place, under_units}
use Rattle.float.proofs.Branches.{zero+, yes, no, sign_fits}
use Rattle.float.proofs.Fraction.{rescale, add_at, sub_at, lt_at, round_neg}

-- ---- the digits of a number between two powers of two
join : (z x : ℕ) → x ≤ suc z → z < x → x ≡ suc z
join z x a b = omega arith

pub size_is : (n z : ℕ) → 2 ^ z ≤ n → n < 2 ^ suc z → size n ≡ suc z
size_is n z lo hi = join z (size n) (size-le n (suc z) hi) (lt_of_not-le (λ (g : size n ≤ z). not-le_of_lt (lt_of_lt_of_le (size-lt n) (pow_mono g)) lo))

-- ---- a fraction that is rounded to a unit of 1: one from 2 ^ (prec - 1) up and below 2 ^ prec
room : (f : Format) → prec f < suc (emax f)
room binary32 = lit< tt
room binary64 = lit< tt

pub pred : (f : Format) → suc (prec f - 1) ≡ prec f
pred binary32 = refl
pred binary64 = refl

pub take_off : (p l : ℕ) → p + l - p ≡ l
take_off p l = omega arith

pub shift : (p l : ℕ) → suc (p - 1) ≡ p → suc (p - 1 + l) ≡ p + l
shift p l h = omega arith

-- what is left of a / c is whole, and next to it
pub to_whole : (f : Format) (a c : ℕ) → 0 < c → 2 ^ (prec f - 1) * c ≤ a → a < 2 ^ prec f * c
    → (w : ℕ) × (a / c ≤ w) × (w ≤ suc (a / c)) × HasValue (round f false a c) false w 1
to_whole f a c C lo hi =
    let L = 2 ^ low f in
    let n = a * L in
    let lo' : 2 ^ (prec f - 1 + low f) ≤ n / c =
    (le-div_iff_mul-le C).1 (le_trans (le_of_eq (ap (λ (x : ℕ). x * c) (pow-add 2 (prec f - 1) (low f)) ∙ mul_right_comm (2 ^ (prec f - 1)) L c)) (mul-le-mul_right L lo)) in
    let hi' : n / c < 2 ^ (prec f + low f) =
    (div-lt_iff_lt-mul C).1 (lt_of_lt_of_le (mul-lt-mul_of_pos_right hi (pow_pos (low f))) (le_of_eq (mul_right_comm (2 ^ prec f) c L ∙ ap (λ (x : ℕ). x * c) (sym (pow-add 2 (prec f) (low f)))))) in
    let up' : suc (prec f - 1 + low f) ≡ prec f + low f = shift (prec f) (low f) (pred f) in
    let z : size (n / c) ≡ prec f + low f = size_is (n / c) (prec f - 1 + low f) lo' (subst (λ (x : ℕ). n / c < 2 ^ x) (sym up') hi') ∙ up' in
    let d : drop (prec f) n c ≡ low f = ap (λ (x : ℕ). x - prec f) z ∙ take_off (prec f) (low f) in
    let w = closest n (c * L) in
    let q : n / (c * L) ≡ a / c = div_same n (c * L) a c (mul-pos C (pow_pos (low f))) C (regroup a L c) in
    let g : grid f a c ≡ w * L = ap (λ (k : ℕ). closest n (c * 2 ^ k) * 2 ^ k) d in
    let w-ge : a / c ≤ w = subst (λ (x : ℕ). x ≤ w) q (nearest-ge (n / (c * L)) (compare (n % (c * L) * 2) (c * L))) in
    let w_le : w ≤ suc (a / c) = subst (λ (x : ℕ). w ≤ suc x) q (nearest-le (n / (c * L)) (compare (n % (c * L) * 2) (c * L))) in
    let under : grid f a c < overflow f =
    subst (λ (x : ℕ). x < overflow f) (sym g)
    (lt_of_le_of_lt (mul-le-mul_right L (le_trans w_le ((div-lt_iff_lt-mul C).1 hi)))
    (subst (λ (x : ℕ). x < overflow f) (pow-add 2 (prec f) (low f)) (pow-lt (over f)))) in
    (w, w-ge, w_le, rescale (round f false a c) false (grid f a c) L w 1 (pow_pos (low f)) (sym g ∙ sym (mul-one (grid f a c))) (round_val f a c under))
  where
    regroup : (a L c : ℕ) → a * L * c ≡ a * (c * L)
    regroup a L c = simp (mul_assoc, mul_comm, mul_left_comm)

    over : (f : Format) → prec f + low f < low f + suc (emax f)
    over f = swap (prec f) (low f) (suc (emax f)) (room f)
      where
        swap : (a b c : ℕ) → a < c → a + b < b + c
        swap a b c h = omega arith

-- ---- whole numbers up to 2 ^ 53, as values of the format
abbrev big : ℕ
big = 2 ^ 52

abbrev pub big+ : Float
big+ = fin false 1 (pos 52)

big_val : HasValue big+ false big 1
big_val = (refl, refl)

abbrev pub one+ : Float
one+ = fin false 1 (pos 0)

one_val : HasValue one+ false 1 1
one_val = (refl, refl)

pub whole_val : (n : ℕ) → n ≤ 2 ^ 53 → HasValue (whole_of false n) false n 1
whole_val n h = round_whole binary64 false n h

pub whole_is : (x : Float) (n : ℕ) → T (fits binary64 x) → HasValue x false n 1 → x ≡ whole_of false n
whole_is x n p v = sym (round_own binary64 x false n 1 (zero-lt-suc 0) p v)

add_whole : (x y : Float) (a b : ℕ) → HasValue x false a 1 → HasValue y false b 1 → add binary64 x y ≡ whole_of false (a + b)
add_whole x y a b v w = add_at binary64 x y a 1 b 1 (zero-lt-suc 0) (zero-lt-suc 0) v w ∙ ap (λ (n : ℕ). round binary64 false n 1) (ones a b)
  where
    ones : (a b : ℕ) → a * 1 + b * 1 ≡ a + b
    ones a b = omega arith

sub_whole : (x y : Float) (a b : ℕ) → b ≤ a → HasValue x false a 1 → HasValue y false b 1 → sub binary64 x y ≡ whole_of false (a - b)
sub_whole x y a b h v w = sub_at binary64 x y a 1 b 1 (zero-lt-suc 0) (zero-lt-suc 0) v w (le a b h) ∙ ap (λ (n : ℕ). round binary64 false n 1) (ones a b)
  where
    le : (a b : ℕ) → b ≤ a → b * 1 ≤ a * 1
    le a b h = omega arith

    ones : (a b : ℕ) → a * 1 - b * 1 ≡ a - b
    ones a b = omega arith

-- ---- x + 2 ^ 52 - 2 ^ 52, for x = a / c below 2 ^ 52
-- a + 2 ^ 52 * c over c
more_lo : (a k : ℕ) → k ≤ a + k
more_lo a k = omega arith

more_hi : (a k B : ℕ) → a < k → B ≡ 2 * k → a + k < B
more_hi a k B h e = omega arith

double : (c : ℕ) → 2 ^ 53 * c ≡ 2 * (2 ^ 52 * c)
double c = omega arith

plus_div : (a c : ℕ) → 0 < c → (a + 2 ^ 52 * c) / c ≡ a / c + 2 ^ 52
plus_div a c C = add-mul-div_right a (2 ^ 52) C

sums : (a c : ℕ) → a * 1 + 2 ^ 52 * c ≡ a + 2 ^ 52 * c
sums a c = omega arith

pub shifted : (x : Float) (a c : ℕ) → 0 < c → HasValue x false a c → a < 2 ^ 52 * c
    → (t : ℕ) × (a / c ≤ t) × (t ≤ suc (a / c)) × (sub binary64 (add binary64 x big+) big+ ≡ whole_of false t)
shifted x a c C v h =
    let A = a + 2 ^ 52 * c in
    let W = to_whole binary64 A c C (more_lo a (2 ^ 52 * c)) (more_hi a (2 ^ 52 * c) (2 ^ 53 * c) h (double c)) in
    let w = W.0 in
    let e : add binary64 x big+ ≡ round binary64 false A c =
    add_at binary64 x big+ a c big 1 C (zero-lt-suc 0) v big_val ∙ ap (λ (n : ℕ). round binary64 false n (c * 1)) (sums a c) ∙ ap (λ (n : ℕ). round binary64 false A n) (mul-one c) in
    let val : HasValue (add binary64 x big+) false w 1 = subst (λ (z : Float). HasValue z false w 1) (sym e) W.3 in
    let p = plus_div a c C in
    (w - 2 ^ 52, lower (a / c) w (A / c) p W.1, upper (a / c) w (A / c) p W.2, sub_whole (add binary64 x big+) big+ w big (enough (a / c) w (A / c) p W.1) val big_val)
  where
    lower : (q w r : ℕ) → r ≡ q + 2 ^ 52 → r ≤ w → q ≤ w - 2 ^ 52
    lower q w r e h = omega arith

    upper : (q w r : ℕ) → r ≡ q + 2 ^ 52 → w ≤ suc r → w - 2 ^ 52 ≤ suc q
    upper q w r e h = omega arith

    enough : (q w r : ℕ) → r ≡ q + 2 ^ 52 → r ≤ w → 2 ^ 52 ≤ w
    enough q w r e h = omega arith

-- ---- the whole part
abbrev pub near : Float → Float
near x = sub binary64 (add binary64 x big+) big+

near_small : (q t : ℕ) → t ≤ suc q → q < 2 ^ 52 → t ≤ 2 ^ 53
near_small q t h k = omega arith

one_more : (q t : ℕ) → t ≤ suc q → q < t → t - 1 ≡ q
one_more q t h k = omega arith

some : (q t : ℕ) → q < t → 1 ≤ t
some q t h = omega arith

no_more : (q t : ℕ) → q ≤ t → t ≤ q → t ≡ q
no_more q t h k = omega arith

module _ (x : Float) (a c : ℕ) (C : 0 < c) (v : HasValue x false a c) (h : a < 2 ^ 52 * c) where
  shift_of : (t : ℕ) × (a / c ≤ t) × (t ≤ suc (a / c)) × (sub binary64 (add binary64 x big+) big+ ≡ whole_of false t)
  shift_of = shifted x a c C v h

  q_lt : a / c < 2 ^ 52
  q_lt = (div-lt_iff_lt-mul C).1 h

  near_val : HasValue (near x) false shift_of.0 1
  near_val = subst (λ (z : Float). HasValue z false shift_of.0 1) (sym shift_of.3) (whole_val shift_of.0 (near_small (a / c) shift_of.0 shift_of.2 q_lt))

  near_test : lt x (near x) ≡ ltb (a * 1) (shift_of.0 * c)
  near_test = lt_at x (near x) a c shift_of.0 1 C (zero-lt-suc 0) v near_val

  pub over : lt x (near x) ≡ true → sub binary64 (near x) one+ ≡ whole_of false (a / c)
  over t =
      let l : a < shift_of.0 * c = subst (λ (z : ℕ). z < shift_of.0 * c) (mul-one a) (ltb→lt (a * 1) (shift_of.0 * c) (yes (sym near_test ∙ t))) in
      let m : a / c < shift_of.0 = (div-lt_iff_lt-mul C).1 l in
      sub_whole (near x) one+ shift_of.0 1 (some (a / c) shift_of.0 m) near_val one_val ∙ ap (λ (n : ℕ). whole_of false n) (one_more (a / c) shift_of.0 shift_of.2 m)

  pub under : lt x (near x) ≡ false → near x ≡ whole_of false (a / c)
  under t =
      let l : shift_of.0 * c ≤ a = subst (λ (z : ℕ). shift_of.0 * c ≤ z) (mul-one a) (nltb→le (a * 1) (shift_of.0 * c) (not_T (ltb (a * 1) (shift_of.0 * c)) (no (sym near_test ∙ t)))) in
      shift_of.3 ∙ ap (λ (n : ℕ). whole_of false n) (no_more (a / c) shift_of.0 shift_of.1 ((le-div_iff_mul-le C).1 l))

-- a number from 0 up and below 2 ^ 52, taken apart
module _ (m : ℕ) (e : ℤ) (h : lt (fin false m e) big+ ≡ true) where
  pub part_lt : m * up e < 2 ^ 52 * down e
  part_lt = subst (λ (z : ℕ). z < 2 ^ 52 * down e) (mul-one (m * up e)) (ltb→lt (m * up e * 1) (2 ^ 52 * down e) (yes (sym (lt_at (fin false m e) big+ (m * up e) (down e) big 1 (down_pos e) (zero-lt-suc 0) (refl, refl) big_val) ∙ h)))

pub trunc_over : (x : Float) → negative x ≡ false → lt x big+ ≡ true → lt x (near x) ≡ true → sub binary64 (near x) one+ ≡ trunc_of x
unfolding trunc_of negative lt
trunc_over nan n h t = absurd (false≢true h)
trunc_over (inf true) n h t = absurd (true≢false n)
trunc_over (inf false) n h t = absurd (false≢true h)
trunc_over (fin true m e) n h t = absurd (true≢false n)
trunc_over (fin false m e) n h t = over (fin false m e) (m * up e) (down e) (down_pos e) (refl, refl) (part_lt m e h) t

pub trunc_under : (x : Float) → negative x ≡ false → lt x big+ ≡ true → lt x (near x) ≡ false → near x ≡ trunc_of x
unfolding trunc_of negative lt
trunc_under nan n h t = absurd (false≢true h)
trunc_under (inf true) n h t = absurd (true≢false n)
trunc_under (inf false) n h t = absurd (false≢true h)
trunc_under (fin true m e) n h t = absurd (true≢false n)
trunc_under (fin false m e) n h t = under (fin false m e) (m * up e) (down e) (down_pos e) (refl, refl) (part_lt m e h) t

-- ---- the sign put back
whole_zero : (s : Bool) → whole_of s 0 ≡ fin s 0 (pos 0)
unfolding round
whole_zero true = refl
whole_zero false = refl

sign_zero : (s : Bool) (r : Float) → sign_of (fin s 0 (pos 0)) r ≡ fin s 0 (pos 0)
unfolding sign_of lt eq
sign_zero true r = refl
sign_zero false r = refl

above_zero : (m : ℕ) (e : ℤ) → 0 < suc m * up e * 1
above_zero m e = mul-pos (mul-pos (zero-lt-suc m) (up_pos e)) (zero-lt-suc 0)

is_false : (b : Bool) → (T b → ⊥) → b ≡ false
is_false true h = absurd (h tt)
is_false false h = refl

is_true : (b : Bool) → T b → b ≡ true
is_true true h = refl
is_true false h = absurd h

pub pos_not_below : (m : ℕ) (e : ℤ) → lt (fin false m e) zero+ ≡ false
unfolding lt
pos_not_below m e = is_false (ltb (m * up e * 1) (0 * 1 * down e)) (λ t. none (m * up e * 1) (0 * 1 * down e) (ltb→lt (m * up e * 1) (0 * 1 * down e) t) (zero-mul (down e)))
  where
    none : (a b : ℕ) → a < b → b ≡ 0 → ⊥
    none a b h k = omega arith

not_zero : (s : Bool) (m : ℕ) (e : ℤ) → eq (fin s (suc m) e) zero+ ≡ false
unfolding eq
not_zero s m e =
    is_false (eqb (suc m * up e * 1) (0 * 1 * down e) && (beq s false || eqb (suc m * up e * 1) 0))
    (λ t. none (suc m * up e * 1) (0 * 1 * down e) (above_zero m e) (eqb→eq (suc m * up e * 1) (0 * 1 * down e) (and_l (eqb (suc m * up e * 1) (0 * 1 * down e)) (beq s false || eqb (suc m * up e * 1) 0) t)) (zero-mul (down e)))
  where
    none : (a b : ℕ) → 0 < a → a ≡ b → b ≡ 0 → ⊥
    none a b h k l = omega arith

pub neg_below : (m : ℕ) (e : ℤ) → lt (fin true (suc m) e) zero+ ≡ true
unfolding lt
neg_below m e = is_true (ltb 0 (suc m * up e * 1 + 0 * 1 * down e)) (lt→ltb 0 (suc m * up e * 1 + 0 * 1 * down e) (plus (suc m * up e * 1) (0 * 1 * down e) (above_zero m e)))
  where
    plus : (a b : ℕ) → 0 < a → 0 < a + b
    plus a b h = omega arith

sign_pos : (m : ℕ) (e : ℤ) (r : Float) → sign_of (fin false (suc m) e) r ≡ r
unfolding sign_of
sign_pos m e r = rw (not_zero false m e, pos_not_below (suc m) e)

sign_neg : (m : ℕ) (e : ℤ) (r : Float) → sign_of (fin true (suc m) e) r ≡ neg r
unfolding sign_of
sign_neg m e r = rw (not_zero true m e, neg_below m e)

pub signed : (s : Bool) (m : ℕ) (e : ℤ) (n : ℕ) → T (fits binary64 (fin s m e)) → (m ≡ 0 → n ≡ 0) → sign_of (fin s m e) (whole_of false n) ≡ whole_of s n
signed s zero e n p z =
    ap (λ (g : ℤ). sign_of (fin s 0 g) (whole_of false n)) (zero_exp binary64 s e p) ∙ sign_zero s (whole_of false n) ∙ sym (whole_zero s) ∙ ap (λ (k : ℕ). whole_of s k) (sym (z refl))
signed true (suc m) e n p z = sign_neg m e (whole_of false n) ∙ round_neg binary64 n 1
signed false (suc m) e n p z = sign_pos m e (whole_of false n)

-- ---- from 2 ^ 52 up every value is whole
too_large : (m k P : ℕ) → 2 ^ 52 * (2 * P) ≤ m → 0 < P → m < 2 ^ 53 → ⊥
too_large m k P h p q = omega arith

pub large : (s : Bool) (m : ℕ) (e : ℤ) → T (fits binary64 (fin s m e)) → lt (fin false m e) big+ ≡ false → (k : ℕ) × (e ≡ pos k)
large s zero e p h = (0, zero_exp binary64 s e p)
large s (suc m) (pos k) p h = (k, refl)
large s (suc m) (negsuc k) p h =
    let l : 2 ^ 52 * 2 ^ suc k ≤ suc m * 1 * 1 =
    nltb→le (suc m * 1 * 1) (2 ^ 52 * 2 ^ suc k) (not_T (ltb (suc m * 1 * 1) (2 ^ 52 * 2 ^ suc k)) (no (sym (lt_at (fin false (suc m) (negsuc k)) big+ (suc m * 1) (2 ^ suc k) big 1 (pow_pos (suc k)) (zero-lt-suc 0) (refl, refl) big_val) ∙ h))) in
    absurd (too_large (suc m) k (2 ^ k) (subst (λ (z : ℕ). 2 ^ 52 * z ≤ suc m) (pow-succ' 2 k) (subst (λ (z : ℕ). 2 ^ 52 * 2 ^ suc k ≤ z) (mul-one (suc m * 1) ∙ mul-one (suc m)) l)) (pow_pos k) (holds binary64 s m (negsuc k) p).short)

-- a whole value is the whole number that it is
pub own_whole : (s : Bool) (m k n : ℕ) → T (fits binary64 (fin s m (pos k))) → n ≡ m * 2 ^ k → fin s m (pos k) ≡ whole_of s n
own_whole s m k n p h = sym (round_own binary64 (fin s m (pos k)) s n 1 (zero-lt-suc 0) p (refl, mul-one (m * 2 ^ k) ∙ sym h ∙ sym (mul-one n)))

-- ---- trunc
zero_part : (m : ℕ) (e : ℤ) → m ≡ 0 → m * up e / down e ≡ 0
zero_part m e z = ap (λ (k : ℕ). k * up e / down e) z ∙ ap (λ (k : ℕ). k / down e) (zero-mul (up e)) ∙ zero-div (down e)

pub trunc_small : (x : Float) → T (fits binary64 x) → lt (abs_of x) big+ ≡ true → sign_of x (trunc_of (abs_of x)) ≡ trunc_of x
unfolding trunc_of abs_of lt
trunc_small nan p h = absurd (false≢true h)
trunc_small (inf s) p h = absurd (false≢true h)
trunc_small (fin s m e) p h = signed s m e (m * up e / down e) p (zero_part m e)

pub trunc_large : (x : Float) → T (fits binary64 x) → lt (abs_of x) big+ ≡ false → x ≡ trunc_of x
unfolding trunc_of abs_of
trunc_large nan p h = refl
trunc_large (inf s) p h = refl
trunc_large (fin s m e) p h =
    let k = large s m e p h in
    subst (λ (g : ℤ). fin s m g ≡ whole_of s (m * up g / down g)) (sym k.1)
    (own_whole s m k.0 (m * 2 ^ k.0 / 1) (subst (λ (g : ℤ). T (fits binary64 (fin s m g))) k.1 p) (div-one (m * 2 ^ k.0)))

pub abs_not_negative : (x : Float) → negative (abs_of x) ≡ false
unfolding negative abs_of
abs_not_negative nan = refl
abs_not_negative (inf s) = refl
abs_not_negative (fin s m e) = refl

-- ---- t + 1, for the whole part t
small_part : (q : ℕ) → q < 2 ^ 52 → q ≤ 2 ^ 53
small_part q h = omega arith

module _ (m : ℕ) (e : ℤ) (h : lt (fin false m e) big+ ≡ true) where
  quotient_val : HasValue (whole_of false (m * up e / down e)) false (m * up e / down e) 1
  quotient_val = whole_val (m * up e / down e) (small_part (m * up e / down e) ((div-lt_iff_lt-mul (down_pos e)).1 (part_lt m e h)))

  pub next : add binary64 (whole_of false (m * up e / down e)) one+ ≡ whole_of false (suc (m * up e / down e))
  next = add_whole (whole_of false (m * up e / down e)) one+ (m * up e / down e) 1 quotient_val one_val ∙ ap (λ (n : ℕ). whole_of false n) (plus_one (m * up e / down e))
    where
      plus_one : (q : ℕ) → q + 1 ≡ suc q
      plus_one q = omega arith

  -- whether a whole part is below its number
  part_test : lt (whole_of false (m * up e / down e)) (fin false m e) ≡ ltb (m * up e / down e * down e) (m * up e * 1)
  part_test = lt_at (whole_of false (m * up e / down e)) (fin false m e) (m * up e / down e) 1 (m * up e) (down e) (zero-lt-suc 0) (down_pos e) quotient_val (refl, refl)

-- ---- floor
ceil_up : (a d : ℕ) → a / d * d < a → ceil_div a d ≡ suc (a / d)
ceil_up a d h = rw (is_false (eqb (a / d * d) a) (λ t. clash (a / d * d) a h (eqb→eq (a / d * d) a t)))
  where
    clash : (x y : ℕ) → x < y → x ≡ y → ⊥
    clash x y p q = omega arith

ceil_whole : (a d : ℕ) → a ≤ a / d * d → ceil_div a d ≡ a / d
ceil_whole a d h = rw (is_true (eqb (a / d * d) a) (subst (λ (z : ℕ). T (eqb z a)) (le_antisymm h (div-mul-le_self a d)) (eqb_refl a)))

pub floor_up : (x : Float) → T (fits binary64 x) → lt (abs_of x) big+ ≡ true → lt x zero+ ≡ true → lt (trunc_of (abs_of x)) (abs_of x) ≡ true → neg (add binary64 (trunc_of (abs_of x)) one+) ≡ floor_of x
unfolding trunc_of abs_of floor_of
floor_up nan p h z t = absurd (unfold lt in false≢true h)
floor_up (inf s) p h z t = absurd (unfold lt in false≢true h)
floor_up (fin false m e) p h z t = absurd (true≢false (sym z ∙ pos_not_below m e))
floor_up (fin true m e) p h z t =
    ap neg (next m e h) ∙ round_neg binary64 (suc (m * up e / down e)) 1
    ∙ ap (λ (n : ℕ). whole_of true n) (sym (ceil_up (m * up e) (down e) (subst (λ (y : ℕ). m * up e / down e * down e < y) (mul-one (m * up e)) (ltb→lt (m * up e / down e * down e) (m * up e * 1) (yes (sym (part_test m e h) ∙ t))))))

pub floor_whole : (x : Float) → T (fits binary64 x) → lt (abs_of x) big+ ≡ true → lt x zero+ ≡ true → lt (trunc_of (abs_of x)) (abs_of x) ≡ false → neg (trunc_of (abs_of x)) ≡ floor_of x
unfolding trunc_of abs_of floor_of
floor_whole nan p h z t = absurd (unfold lt in false≢true h)
floor_whole (inf s) p h z t = absurd (unfold lt in false≢true h)
floor_whole (fin false m e) p h z t = absurd (true≢false (sym z ∙ pos_not_below m e))
floor_whole (fin true m e) p h z t =
    round_neg binary64 (m * up e / down e) 1
    ∙ ap (λ (n : ℕ). whole_of true n) (sym (ceil_whole (m * up e) (down e) (subst (λ (y : ℕ). y ≤ m * up e / down e * down e) (mul-one (m * up e))
    (nltb→le (m * up e / down e * down e) (m * up e * 1) (not_T (ltb (m * up e / down e * down e) (m * up e * 1)) (no (sym (part_test m e h) ∙ t)))))))

ceil_zero : (e : ℤ) → ceil_div (0 * up e) (down e) ≡ 0 * up e / down e
ceil_zero e = ceil_whole (0 * up e) (down e) (subst (λ (z : ℕ). z ≤ 0 * up e / down e * down e) (sym (zero-mul (up e))) zero-le)

floor_is : (s : Bool) (m : ℕ) (e : ℤ) → lt (fin s m e) zero+ ≡ false → cond s (ceil_div (m * up e) (down e)) (m * up e / down e) ≡ m * up e / down e
floor_is false m e z = refl
floor_is true zero e z = ceil_zero e
floor_is true (suc m) e z = absurd (true≢false (sym (neg_below m e) ∙ z))

pub floor_else : (x : Float) → T (fits binary64 x) → lt (abs_of x) big+ ≡ true → lt x zero+ ≡ false → sign_of x (trunc_of (abs_of x)) ≡ floor_of x
unfolding trunc_of abs_of floor_of
floor_else nan p h z = absurd (unfold lt in false≢true h)
floor_else (inf s) p h z = absurd (unfold lt in false≢true h)
floor_else (fin s m e) p h z = signed s m e (m * up e / down e) p (zero_part m e) ∙ ap (λ (n : ℕ). whole_of s n) (sym (floor_is s m e z))

ceil_one : (a : ℕ) → ceil_div a 1 ≡ a
ceil_one a = ceil_whole a 1 (le_of_eq (sym (mul-one (a / 1) ∙ div-one a))) ∙ div-one a

either_one : (s : Bool) (a : ℕ) → cond s (ceil_div a 1) (a / 1) ≡ a
either_one true a = ceil_one a
either_one false a = div-one a

pub floor_large : (x : Float) → T (fits binary64 x) → lt (abs_of x) big+ ≡ false → x ≡ floor_of x
unfolding floor_of abs_of
floor_large nan p h = refl
floor_large (inf s) p h = refl
floor_large (fin s m e) p h =
    let k = large s m e p h in
    subst (λ (g : ℤ). fin s m g ≡ whole_of s (cond s (ceil_div (m * up g) (down g)) (m * up g / down g))) (sym k.1)
    (own_whole s m k.0 (cond s (ceil_div (m * 2 ^ k.0) 1) (m * 2 ^ k.0 / 1)) (subst (λ (g : ℤ). T (fits binary64 (fin s m g))) k.1 p) (either_one s (m * 2 ^ k.0)))

-- ---- round
abbrev pub half+ : Float
half+ = fin false 1 (negsuc 0)

half_val : HasValue half+ false 1 2
half_val = (refl, refl)

-- the part after the point is a value of the format
pub frac_val : (m : ℕ) (e : ℤ) → T (fits binary64 (fin false m e)) → HasValue (round binary64 false (m * up e % down e) (down e)) false (m * up e % down e) (down e)
frac_val m (pos k) p = subst (λ (n : ℕ). HasValue (round binary64 false n 1) false n 1) (sym (mod-one (m * 2 ^ k))) (whole_val 0 zero-le)
frac_val zero (negsuc k) p = absurd (no_exp k (zero_exp binary64 false (negsuc k) p))
  where
    is_pos : ℤ → Bool
    is_pos (pos n) = true
    is_pos (negsuc n) = false

    no_exp : (k : ℕ) → negsuc k ≡ pos 0 → ⊥
    no_exp k h = false≢true (ap is_pos h)
frac_val (suc m) (negsuc k) p =
    let H = holds binary64 false m (negsuc k) p in
    let P = place (low binary64) (negsuc k) H.high in
    let q = suc m * 1 % 2 ^ suc k in
    let q-le : q ≤ suc m = le_trans (mod-le (suc m * 1) (2 ^ suc k)) (le_of_eq (mul-one (suc m))) in
    let U : suc m * 2 ^ P.0 < 2 ^ low binary64 * 2 ^ suc (emax binary64) = under_units (suc m) 1 (2 ^ suc k) (2 ^ low binary64) (2 ^ P.0) (2 ^ suc (emax binary64)) (pow_pos (low binary64)) (pow_pos (suc k)) P.1 H.under in
    round_exact binary64 false q (2 ^ suc k) q P.0 (pow_pos (suc k)) (lt_of_le_of_lt q-le H.short)
    (subst (λ (z : ℕ). q * 2 ^ P.0 < z) (sym (pow-add 2 (low binary64) (suc (emax binary64)))) (lt_of_le_of_lt (mul-le-mul_right (2 ^ P.0) q-le) U))
    (ap (λ (z : ℕ). q * z) (sym (one-mul (2 ^ low binary64)) ∙ P.1) ∙ sym (mul_assoc q (2 ^ P.0) (2 ^ suc k)))

rest_is : (a q c r : ℕ) → q * c + r ≡ a → a * 1 - q * c ≡ r
rest_is a q c r h = omega arith

rest_le : (a q c r : ℕ) → q * c + r ≡ a → q * c ≤ a * 1
rest_le a q c r h = omega arith

module _ (m : ℕ) (e : ℤ) (p : T (fits binary64 (fin false m e))) (h : lt (fin false m e) big+ ≡ true) where
  frac_is : sub binary64 (fin false m e) (whole_of false (m * up e / down e)) ≡ round binary64 false (m * up e % down e) (down e)
  frac_is =
      let d = div-add-mod' (m * up e) (down e) in
      sub_at binary64 (fin false m e) (whole_of false (m * up e / down e)) (m * up e) (down e) (m * up e / down e) 1 (down_pos e) (zero-lt-suc 0) (refl, refl) (quotient_val m e h)
      (rest_le (m * up e) (m * up e / down e) (down e) (m * up e % down e) d)
      ∙ ap (λ (n : ℕ). round binary64 false n (down e * 1)) (rest_is (m * up e) (m * up e / down e) (down e) (m * up e % down e) d)
      ∙ ap (λ (n : ℕ). round binary64 false (m * up e % down e) n) (mul-one (down e))

  half_test : lt (sub binary64 (fin false m e) (whole_of false (m * up e / down e))) half+ ≡ ltb (m * up e % down e * 2) (1 * down e)
  half_test =
      lt_at (sub binary64 (fin false m e) (whole_of false (m * up e / down e))) half+ (m * up e % down e) (down e) 1 2 (down_pos e) (zero-lt-suc 1)
      (subst (λ (z : Float). HasValue z false (m * up e % down e) (down e)) (sym frac_is) (frac_val m e p)) half_val

round_down : (a c : ℕ) → 0 < c → a % c * 2 < 1 * c → (2 * a + c) / (2 * c) ≡ a / c
round_down a c C h = ap (λ (z : ℕ). (2 * z + c) / (2 * c)) (sym (div-add-mod' a c)) ∙ ap (λ (z : ℕ). z / (2 * c)) (regroup (a / c) c (a % c)) ∙ digits_div (a / c) (less (a % c) c h)
  where
    regroup : (q c r : ℕ) → 2 * (q * c + r) + c ≡ q * (2 * c) + (2 * r + c)
    regroup q c r = omega (arith, mul_left_comm q 2 c)

    less : (r c : ℕ) → r * 2 < 1 * c → 2 * r + c < 2 * c
    less r c h = omega arith

round_up : (a c : ℕ) → 0 < c → 1 * c ≤ a % c * 2 → (2 * a + c) / (2 * c) ≡ suc (a / c)
round_up a c C h = ap (λ (z : ℕ). (2 * z + c) / (2 * c)) (sym (div-add-mod' a c)) ∙ ap (λ (z : ℕ). z / (2 * c)) (regroup (a / c) c (a % c) h) ∙ digits_div (suc (a / c)) (less (a % c) c (mod-lt a C) h)
  where
    regroup : (q c r : ℕ) → 1 * c ≤ r * 2 → 2 * (q * c + r) + c ≡ suc q * (2 * c) + (2 * r + c - 2 * c)
    regroup q c r k = omega (arith, mul_left_comm q 2 c, suc-mul q (2 * c))

    less : (r c : ℕ) → r < c → 1 * c ≤ r * 2 → 2 * r + c - 2 * c < 2 * c
    less r c h k = omega arith

zero_no : (m : ℕ) (e : ℤ) → m ≡ 0 → 1 * down e ≤ m * up e % down e * 2 → ⊥
zero_no m e z h = none (down e) (m * up e % down e) (down_pos e) h (ap (λ (k : ℕ). k * up e % down e) z ∙ ap (λ (k : ℕ). k % down e) (zero-mul (up e)) ∙ zero-mod (down e))
  where
    none : (c r : ℕ) → 0 < c → 1 * c ≤ r * 2 → r ≡ 0 → ⊥
    none c r a b d = omega arith

pub round_less : (x : Float) → T (fits binary64 x) → lt (abs_of x) big+ ≡ true → lt (sub binary64 (abs_of x) (trunc_of (abs_of x))) half+ ≡ true → sign_of x (trunc_of (abs_of x)) ≡ round_of x
unfolding trunc_of abs_of round_of
round_less nan p h t = absurd (unfold lt in false≢true h)
round_less (inf s) p h t = absurd (unfold lt in false≢true h)
round_less (fin s m e) p h t =
    signed s m e (m * up e / down e) p (zero_part m e)
    ∙ ap (λ (n : ℕ). whole_of s n) (sym (round_down (m * up e) (down e) (down_pos e) (ltb→lt (m * up e % down e * 2) (1 * down e) (yes (sym (half_test m e (sign_fits s m e p) h) ∙ t)))))

pub round_more : (x : Float) → T (fits binary64 x) → lt (abs_of x) big+ ≡ true → lt (sub binary64 (abs_of x) (trunc_of (abs_of x))) half+ ≡ false → sign_of x (add binary64 (trunc_of (abs_of x)) one+) ≡ round_of x
unfolding trunc_of abs_of round_of
round_more nan p h t = absurd (unfold lt in false≢true h)
round_more (inf s) p h t = absurd (unfold lt in false≢true h)
round_more (fin s m e) p h t =
    let g : 1 * down e ≤ m * up e % down e * 2 = nltb→le (m * up e % down e * 2) (1 * down e) (not_T (ltb (m * up e % down e * 2) (1 * down e)) (no (sym (half_test m e (sign_fits s m e p) h) ∙ t))) in
    ap (sign_of (fin s m e)) (next m e h)
    ∙ signed s m e (suc (m * up e / down e)) p (λ z. absurd (zero_no m e z g))
    ∙ ap (λ (n : ℕ). whole_of s n) (sym (round_up (m * up e) (down e) (down_pos e) g))

by_half : (b : Bool) (x t u y : Float) → (b ≡ true → sign_of x t ≡ y) → (b ≡ false → sign_of x u ≡ y) → sign_of x (cond b t u) ≡ y
by_half true x t u y f g = f refl
by_half false x t u y f g = g refl

pub round_small : (x : Float) → T (fits binary64 x) → lt (abs_of x) big+ ≡ true → sign_of x (half_up (trunc_of (abs_of x)) (sub binary64 (abs_of x) (trunc_of (abs_of x)))) ≡ round_of x
unfolding half_up
round_small x p h =
    by_half (lt (sub binary64 (abs_of x) (trunc_of (abs_of x))) half+) x (trunc_of (abs_of x)) (add binary64 (trunc_of (abs_of x)) one+) (round_of x) (round_less x p h) (round_more x p h)

round_one : (a : ℕ) → (2 * a + 1) / 2 ≡ a
round_one a = omega arith

pub round_large : (x : Float) → T (fits binary64 x) → lt (abs_of x) big+ ≡ false → x ≡ round_of x
unfolding round_of abs_of
round_large nan p h = refl
round_large (inf s) p h = refl
round_large (fin s m e) p h =
    let k = large s m e p h in
    subst (λ (g : ℤ). fin s m g ≡ whole_of s ((2 * (m * up g) + down g) / (2 * down g))) (sym k.1)
    (own_whole s m k.0 ((2 * (m * 2 ^ k.0) + 1) / 2) (subst (λ (g : ℤ). T (fits binary64 (fin s m g))) k.1 p) (round_one (m * 2 ^ k.0)))

-- what is shown of |x| and its whole part holds of the results of the calls that gave them
pub with_parts : (P : Float → Float → Type 0) (x a t : Float) → a ≡ abs_of x → t ≡ trunc_of a → P (abs_of x) (trunc_of (abs_of x)) → P a t
with_parts P x a t ea et h = subst (λ (z : Float). P a z) (sym et) (subst (λ (z : Float). P z (trunc_of z)) (sym ea) h)

pub requires_of : (x a : Float) → a ≡ abs_of x → lt a big+ ≡ true → (negative a ≡ false) × (lt a big+ ≡ true)
requires_of x a e h = (ap negative e ∙ abs_not_negative x, h)

-- ---- what `whole_of` is handed is a value of the format: nothing is rounded there
exact : (s : Bool) (m : ℕ) (e : ℤ) (n : ℕ) → T (fits binary64 (fin s m e)) → n ≤ suc (m * up e / down e) → ((k : ℕ) → e ≡ pos k → n ≡ m * 2 ^ k) → HasValue (whole_of s n) s n 1
exact s m e n p le same = go (lt (fin false m e) big+) refl
  where
    few : (q n : ℕ) → n ≤ suc q → q < 2 ^ 52 → n ≤ 2 ^ 53
    few q n h k = omega arith

    go : (b : Bool) → lt (fin false m e) big+ ≡ b → HasValue (whole_of s n) s n 1
    go true h = round_whole binary64 s n (few (m * up e / down e) n le ((div-lt_iff_lt-mul (down_pos e)).1 (part_lt m e h)))
    go false h =
        let k = large s m e p h in
        let q = subst (λ (g : ℤ). T (fits binary64 (fin s m g))) k.1 p in
        let w : n ≡ m * 2 ^ k.0 = same k.0 k.1 in
        subst (λ (x : Float). HasValue x s n 1) (own_whole s m k.0 n q w) (refl, mul-one (m * 2 ^ k.0) ∙ sym w ∙ sym (mul-one n))

pub trunc_exact : (s : Bool) (m : ℕ) (e : ℤ) → T (fits binary64 (fin s m e)) → HasValue (trunc_of (fin s m e)) s (m * up e / down e) 1
unfolding trunc_of
trunc_exact s m e p = exact s m e (m * up e / down e) p (le-suc (m * up e / down e)) (λ k h. ap (λ (g : ℤ). m * up g / down g) h ∙ div-one (m * 2 ^ k))

half_le : (a c : ℕ) → 0 < c → (2 * a + c) / (2 * c) ≤ suc (a / c)
half_le a c C = go (ltb (a % c * 2) (1 * c)) (ltb→lt (a % c * 2) (1 * c)) (nltb→le (a % c * 2) (1 * c))
  where
    go : (b : Bool) → (T b → a % c * 2 < 1 * c) → (T (not b) → 1 * c ≤ a % c * 2) → (2 * a + c) / (2 * c) ≤ suc (a / c)
    go true f g = le_trans (le_of_eq (round_down a c C (f tt))) (le-suc (a / c))
    go false f g = le_of_eq (round_up a c C (g tt))

pub nearest_exact : (s : Bool) (m : ℕ) (e : ℤ) → T (fits binary64 (fin s m e)) → HasValue (round_of (fin s m e)) s ((2 * (m * up e) + down e) / (2 * down e)) 1
unfolding round_of
nearest_exact s m e p = exact s m e ((2 * (m * up e) + down e) / (2 * down e)) p (half_le (m * up e) (down e) (down_pos e)) (λ k h. ap (λ (g : ℤ). (2 * (m * up g) + down g) / (2 * down g)) h ∙ round_one (m * 2 ^ k))

ceil_le : (b s : Bool) (q : ℕ) → cond s (cond b q (suc q)) q ≤ suc q
ceil_le b false q = le-suc q
ceil_le true true q = le-suc q
ceil_le false true q = le_of_eq refl

pub floor_exact : (s : Bool) (m : ℕ) (e : ℤ) → T (fits binary64 (fin s m e)) → HasValue (floor_of (fin s m e)) s (cond s (ceil_div (m * up e) (down e)) (m * up e / down e)) 1
unfolding floor_of
floor_exact s m e p =
    exact s m e (cond s (ceil_div (m * up e) (down e)) (m * up e / down e)) p (ceil_le (eqb (m * up e / down e * down e) (m * up e)) s (m * up e / down e))
    (λ k h. ap (λ (g : ℤ). cond s (ceil_div (m * up g) (down g)) (m * up g / down g)) h ∙ either_one s (m * 2 ^ k))
