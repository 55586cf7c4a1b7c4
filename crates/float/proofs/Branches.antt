-- Magnitude, maximum, minimum: each branch of the code against the definition, on plain values. Assumes nothing.
use Rattle.std.proofs.Common.{◌≡◌, ℕ, zero, suc, ◌+◌, ◌*◌, ◌<◌, ◌≤◌, Bool, true, false, cond, not, ◌&&◌, ◌||◌, T, eqb, ltb, ◌⊎◌, ℤ, pos, negsuc, sym, refl, ap, ◌∙◌, subst, inl, inr, true≢false, le_of_eq, lt_of_lt_of_le, le-add_right, zero-lt-suc, le_antisymm, mul-pos, one-mul, zero-add, zero-mul, mul-one, arith, eqb→eq, ltb→lt, lt→ltb, nltb→le}
use mathlib.Core.Bool.{beq, false≢true}
use lib.Dec.{not_T, eqb_refl}
use lib.Ieee.{Float, nan, inf, fin, binary64, up, down, neg, add, sub, sum, rem, lt, le, eq, ne, round, fits, is_nan, level, of_bits}
use lib.Ieee.Fits.{and_l, and_r, and_i, up_pos, down_pos}
use lib.Ieee.Compare.{differs_from_itself}
use Rattle.float.specs.Def.{abs_of, negative, max_of, min_of, clamp_of, rem_euclid_of}
use Rattle.float.specs.Steps.{half_up}
use Rattle.float.proofs.Unique.{unique_cross, zero_exp, not_zero', round_own}

abbrev pub zero+ : Float
zero+ = fin false 0 (pos 0)

-- ---- a Bool equation, as a fact and as a refutation
pub yes : {b : Bool} → b ≡ true → T b
yes e = subst T (sym e) tt

pub no : {b : Bool} → b ≡ false → T b → ⊥
no e t = subst T e t

-- ---- what equals a zero is a zero
abbrev pub IsZero : Float → Type 0
IsZero x = (s : Bool) × (x ≡ fin s 0 (pos 0))

zero_of : (s : Bool) (m : ℕ) (e : ℤ) (b : ℕ) → T (fits binary64 (fin s m e)) → m * up e * 1 ≡ 0 * 1 * b → IsZero (fin s m e)
zero_of s zero e b p h = (s, ap (λ (z : ℤ). fin s zero z) (zero_exp binary64 s e p))
zero_of s (suc m) e b p h = absurd (not_zero' m (up e) 1 1 b (up_pos e) (up_pos (pos 0)) (sym h))

pub zero_left : (x : Float) (t : Bool) → T (fits binary64 x) → T (eq x (fin t 0 (pos 0))) → IsZero x
unfolding eq
zero_left nan t p h = absurd h
zero_left (inf s) t p h = absurd h
zero_left (fin s m e) t p h =
    zero_of s m e (down e) p (eqb→eq (m * up e * 1) (0 * 1 * down e) (and_l (eqb (m * up e * 1) (0 * 1 * down e)) (beq s t || eqb (m * up e * 1) 0) h))

pub zero_right : (s : Bool) (y : Float) → T (fits binary64 y) → T (eq (fin s 0 (pos 0)) y) → IsZero y
unfolding eq
zero_right s nan p h = absurd h
zero_right s (inf t) p h = absurd h
zero_right s (fin t n d) p h =
    zero_of t n d (down d) p (sym (eqb→eq (0 * 1 * down d) (n * up d * 1) (and_l (eqb (0 * 1 * down d) (n * up d * 1)) (beq s t || eqb (0 * 1 * down d) 0) h)))

-- ---- what is equal and no zero is the same value
beq→eq : (s t : Bool) → T (beq s t) → s ≡ t
beq→eq true true h = refl
beq→eq true false h = absurd h
beq→eq false true h = absurd h
beq→eq false false h = refl

or_no : (a b : Bool) → T (a || b) → (T b → ⊥) → T a
or_no true b h k = tt
or_no false b h k = absurd (k h)

pos_no : (m u d : ℕ) (b : ℕ) → 0 < u → 0 < d → suc m * u * d ≡ 0 → ⊥
pos_no m u d b U D h = not_zero' m u 1 d 1 U D (sym h)

same_fin : (s t : Bool) (m n : ℕ) (e d : ℤ) → T (fits binary64 (fin s m e)) → T (fits binary64 (fin t n d)) → T (eq (fin s m e) (fin t n d)) → (T (eq (fin s m e) zero+) → ⊥) → fin s m e ≡ fin t n d
unfolding eq
same_fin s t m n e d p q h k =
    let A = m * up e * down d in
    let B = n * up d * down e in
    unique_cross binary64 s t m n e d p q
    (beq→eq s t (or_no (beq s t) (eqb A 0) (and_r (eqb A B) (beq s t || eqb A 0) h) (λ z. zero_no m (eqb→eq A 0 z) k)))
    (eqb→eq A B (and_l (eqb A B) (beq s t || eqb A 0) h))
  where
    zeros : (a : ℕ) → a ≡ 0 → T (eqb a 0)
    zeros a e = subst (λ (z : ℕ). T (eqb z 0)) (sym e) (eqb_refl 0)

    or_r : (a b : Bool) → T b → T (a || b)
    or_r true b t = tt
    or_r false b t = t

    is_zero : (m : ℕ) → m ≡ 0 → T (level s (m * up e * 1) false (0 * 1 * down e))
    is_zero m z =
        let a : m * up e * 1 ≡ 0 = ap (λ (y : ℕ). y * up e * 1) z ∙ ap (λ (y : ℕ). y * 1) (zero-mul (up e)) ∙ zero-mul 1 in
        let b : 0 * 1 * down e ≡ 0 = zero-mul (down e) in
        and_i (eqb (m * up e * 1) (0 * 1 * down e)) (beq s false || eqb (m * up e * 1) 0)
        (subst (λ (y : ℕ). T (eqb y (0 * 1 * down e))) (sym a) (subst (λ (y : ℕ). T (eqb 0 y)) (sym b) (eqb_refl 0)))
        (or_r (beq s false) (eqb (m * up e * 1) 0) (zeros (m * up e * 1) a))

    zero_no : (m : ℕ) → m * up e * down d ≡ 0 → (T (level s (m * up e * 1) false (0 * 1 * down e)) → ⊥) → ⊥
    zero_no zero a k = k (is_zero zero refl)
    zero_no (suc m) a k = pos_no m (up e) (down d) 0 (up_pos e) (down_pos d) a

pub same : (x y : Float) → T (fits binary64 x) → T (fits binary64 y) → T (eq x y) → (T (eq x zero+) → ⊥) → x ≡ y
unfolding eq
same nan y p q h k = absurd h
same (inf s) nan p q h k = absurd h
same (inf s) (inf t) p q h k = ap inf (beq→eq s t h)
same (inf s) (fin t n d) p q h k = absurd h
same (fin s m e) nan p q h k = absurd h
same (fin s m e) (inf t) p q h k = absurd h
same (fin s m e) (fin t n d) p q h k = same_fin s t m n e d p q h k

-- ---- abs: 0 - x where x ≤ 0
opened : (s : Bool) (m : ℕ) (e : ℤ) → sub binary64 zero+ (fin s m e) ≡ sum binary64 false (0 * 1 * down e) (not s) (m * up e * 1) (1 * down e)
unfolding sub
opened s m e = refl

sum_zero : (s : Bool) (c : ℕ) → sum binary64 false 0 s 0 c ≡ round binary64 false 0 c
unfolding sum
sum_zero true c = refl
sum_zero false c = refl

sum_first : (b c : ℕ) → sum binary64 false 0 false b c ≡ round binary64 false b c
unfolding sum
sum_first b c = ap (λ (z : ℕ). round binary64 false z c) (zero-add b)

pub sign_fits : (s : Bool) (m : ℕ) (e : ℤ) → T (fits binary64 (fin s m e)) → T (fits binary64 (fin false m e))
unfolding fits
sign_fits s zero e p = p
sign_fits s (suc m) e p = p

own : (s : Bool) (m : ℕ) (e : ℤ) → T (fits binary64 (fin s m e)) → round binary64 false (m * up e * 1) (1 * down e) ≡ fin false m e
own s m e p = round_own binary64 (fin false m e) false (m * up e * 1) (1 * down e) (mul-pos (zero-lt-suc 0) (down_pos e)) (sign_fits s m e p) (refl, regroup (m * up e) (down e))
  where
    regroup : (a d : ℕ) → a * (1 * d) ≡ a * 1 * d
    regroup a d = ap (λ (z : ℕ). a * z) (one-mul d) ∙ ap (λ (z : ℕ). z * d) (sym (mul-one a))

le_pos : (m : ℕ) (e : ℤ) → le (fin false m e) zero+ ≡ true → m ≡ 0
unfolding le
le_pos zero e h = refl
le_pos (suc m) e h = absurd (none (suc m * up e * 1) (0 * 1 * down e) (mul-pos (mul-pos (zero-lt-suc m) (up_pos e)) (zero-lt-suc 0)) (zero-mul (down e)) (weak (suc m * up e * 1) (0 * 1 * down e) (yes h)))
  where
    none : (a b : ℕ) → 0 < a → b ≡ 0 → a ≤ b → ⊥
    none a b h k l = omega arith

    weak : (a b : ℕ) → T (ltb a b || (eqb a b && (true || eqb a 0))) → a ≤ b
    weak a b t = go (ltb a b) (ltb→lt a b) t
      where
        less : (a b : ℕ) → a < b → a ≤ b
        less a b h = omega arith

        go : (c : Bool) → (T c → a < b) → T (c || (eqb a b && (true || eqb a 0))) → a ≤ b
        go true f t = less a b (f tt)
        go false f t = le_of_eq (eqb→eq a b (and_l (eqb a b) (true || eqb a 0) t))

pub abs_low : (x : Float) → T (fits binary64 x) → le x zero+ ≡ true → sub binary64 zero+ x ≡ abs_of x
unfolding abs_of
abs_low nan p h = absurd (unfold le in false≢true h)
abs_low (inf true) p h = unfold sub in refl
abs_low (inf false) p h = absurd (unfold le in false≢true h)
abs_low (fin true m e) p h =
    opened true m e ∙ ap (λ (z : ℕ). sum binary64 false z false (m * up e * 1) (1 * down e)) (zero-mul (down e)) ∙ sum_first (m * up e * 1) (1 * down e) ∙ own true m e p
abs_low (fin false m e) p h =
    let z : m ≡ 0 = le_pos m e h in
    let a : m * up e * 1 ≡ 0 = ap (λ (y : ℕ). y * up e * 1) z ∙ ap (λ (y : ℕ). y * 1) (zero-mul (up e)) ∙ zero-mul 1 in
    opened false m e
    ∙ ap (λ (y : ℕ). sum binary64 false y true (m * up e * 1) (1 * down e)) (zero-mul (down e))
    ∙ ap (λ (y : ℕ). sum binary64 false 0 true y (1 * down e)) a
    ∙ sum_zero true (1 * down e)
    ∙ ap (λ (y : ℕ). round binary64 false y (1 * down e)) (sym a)
    ∙ own false m e p

neg_le : (m : ℕ) (e : ℤ) → le (fin true m e) zero+ ≡ false → ⊥
unfolding le
neg_le m e h = no h (go m)
  where
    or_l : (a b : Bool) → T a → T (a || b)
    or_l true b t = tt
    or_l false b t = absurd t

    or_r : (a b : Bool) → T b → T (a || b)
    or_r true b t = tt
    or_r false b t = t

    go : (m : ℕ) → T (ltb 0 (m * up e * 1 + 0 * 1 * down e) || (eqb (m * up e * 1) (0 * 1 * down e) && (false || eqb (m * up e * 1) 0)))
    go zero =
        let a : 0 * up e * 1 ≡ 0 = ap (λ (y : ℕ). y * 1) (zero-mul (up e)) ∙ zero-mul 1 in
        let b : 0 * 1 * down e ≡ 0 = zero-mul (down e) in
        or_r (ltb 0 (0 * up e * 1 + 0 * 1 * down e)) (eqb (0 * up e * 1) (0 * 1 * down e) && (false || eqb (0 * up e * 1) 0))
        (subst (λ (y : ℕ). T (eqb y (0 * 1 * down e) && (false || eqb y 0))) (sym a) (subst (λ (y : ℕ). T (eqb 0 y && (false || eqb 0 0))) (sym b) tt))
    go (suc m) =
        or_l (ltb 0 (suc m * up e * 1 + 0 * 1 * down e)) (eqb (suc m * up e * 1) (0 * 1 * down e) && (false || eqb (suc m * up e * 1) 0))
        (lt→ltb 0 (suc m * up e * 1 + 0 * 1 * down e) (lt_of_lt_of_le (mul-pos (mul-pos (zero-lt-suc m) (up_pos e)) (zero-lt-suc 0)) (le-add_right (suc m * up e * 1) (0 * 1 * down e))))

pub abs_high : (x : Float) → le x zero+ ≡ false → x ≡ abs_of x
unfolding abs_of
abs_high nan h = refl
abs_high (inf true) h = absurd (unfold le in true≢false h)
abs_high (inf false) h = refl
abs_high (fin false m e) h = refl
abs_high (fin true m e) h = absurd (neg_le m e h)

-- ---- max and min, by what the comparisons found
lt_not_nan : (x y : Float) → lt x y ≡ true → (is_nan x ≡ false) × (is_nan y ≡ false)
unfolding lt is_nan
lt_not_nan nan y h = absurd (false≢true h)
lt_not_nan (inf s) nan h = absurd (false≢true h)
lt_not_nan (inf s) (inf t) h = (refl, refl)
lt_not_nan (inf s) (fin t n d) h = (refl, refl)
lt_not_nan (fin s m e) nan h = absurd (false≢true h)
lt_not_nan (fin s m e) (inf t) h = (refl, refl)
lt_not_nan (fin s m e) (fin t n d) h = (refl, refl)

eq_not_nan : (x y : Float) → eq x y ≡ true → (is_nan x ≡ false) × (is_nan y ≡ false)
unfolding eq is_nan
eq_not_nan nan y h = absurd (false≢true h)
eq_not_nan (inf s) nan h = absurd (false≢true h)
eq_not_nan (inf s) (inf t) h = (refl, refl)
eq_not_nan (inf s) (fin t n d) h = (refl, refl)
eq_not_nan (fin s m e) nan h = absurd (false≢true h)
eq_not_nan (fin s m e) (inf t) h = (refl, refl)
eq_not_nan (fin s m e) (fin t n d) h = (refl, refl)

-- of two numbers one is below the other, or they are equal
apart : (a b : ℕ) → (T (ltb a b) → ⊥) → (T (ltb b a) → ⊥) → a ≡ b
apart a b h k = le_antisymm (nltb→le b a (not_T (ltb b a) k)) (nltb→le a b (not_T (ltb a b) h))

unequal_nan : (x y : Float) → lt x y ≡ false → lt y x ≡ false → eq x y ≡ false → (is_nan x ≡ true) ⊎ ((is_nan x ≡ false) × (is_nan y ≡ true))
unfolding lt eq is_nan
unequal_nan nan y h k l = inl refl
unequal_nan (inf s) nan h k l = inr (refl, refl)
unequal_nan (inf true) (inf true) h k l = absurd (true≢false l)
unequal_nan (inf true) (inf false) h k l = absurd (true≢false h)
unequal_nan (inf false) (inf true) h k l = absurd (true≢false k)
unequal_nan (inf false) (inf false) h k l = absurd (true≢false l)
unequal_nan (inf true) (fin t n d) h k l = absurd (true≢false h)
unequal_nan (inf false) (fin t n d) h k l = absurd (true≢false k)
unequal_nan (fin s m e) nan h k l = inr (refl, refl)
unequal_nan (fin s m e) (inf true) h k l = absurd (true≢false k)
unequal_nan (fin s m e) (inf false) h k l = absurd (true≢false h)
unequal_nan (fin true m e) (fin true n d) h k l =
    absurd (no l (subst (λ (z : ℕ). T (eqb (m * up e * down d) z && (true || eqb (m * up e * down d) 0))) (apart (m * up e * down d) (n * up d * down e) (no k) (no h)) (and_i (eqb (m * up e * down d) (m * up e * down d)) true (eqb_refl (m * up e * down d)) tt)))
unequal_nan (fin false m e) (fin false n d) h k l =
    absurd (no l (subst (λ (z : ℕ). T (eqb (m * up e * down d) z && (true || eqb (m * up e * down d) 0))) (apart (m * up e * down d) (n * up d * down e) (no h) (no k)) (and_i (eqb (m * up e * down d) (m * up e * down d)) true (eqb_refl (m * up e * down d)) tt)))
unequal_nan (fin true m e) (fin false n d) h k l = absurd (mixed (m * up e * down d) (n * up d * down e) (no h) (no l))
  where
    mixed : (a b : ℕ) → (T (ltb 0 (a + b)) → ⊥) → (T (eqb a b && (false || eqb a 0)) → ⊥) → ⊥
    mixed zero zero h l = l tt
    mixed zero (suc b) h l = h (lt→ltb 0 (0 + suc b) (omega arith))
    mixed (suc a) b h l = h (lt→ltb 0 (suc a + b) (omega arith))
unequal_nan (fin false m e) (fin true n d) h k l = absurd (mixed (n * up d * down e) (m * up e * down d) (no k) (no l))
  where
    mixed : (a b : ℕ) → (T (ltb 0 (a + b)) → ⊥) → (T (eqb b a && (false || eqb b 0)) → ⊥) → ⊥
    mixed zero zero h l = l tt
    mixed zero (suc b) h l = h (lt→ltb 0 (0 + suc b) (omega arith))
    mixed (suc a) b h l = h (lt→ltb 0 (suc a + b) (omega arith))

-- each branch of `max` and `min`
pub max_below : (x y : Float) → lt x y ≡ true → y ≡ max_of x y
unfolding max_of
max_below x y h = sym (rw ((lt_not_nan x y h).0, (lt_not_nan x y h).1, h))

pub max_above : (x y : Float) → lt x y ≡ false → lt y x ≡ true → x ≡ max_of x y
unfolding max_of
max_above x y h k = sym (rw ((lt_not_nan y x k).1, (lt_not_nan y x k).0, h, k))

max_zeros : (s t : Bool) → add binary64 (fin s 0 (pos 0)) (fin t 0 (pos 0)) ≡ max_of (fin s 0 (pos 0)) (fin t 0 (pos 0))
unfolding add max_of lt is_nan
max_zeros true true = refl
max_zeros true false = refl
max_zeros false true = refl
max_zeros false false = refl

pub max_zero : (x y : Float) → T (fits binary64 x) → T (fits binary64 y) → eq x y ≡ true → eq x zero+ ≡ true → add binary64 x y ≡ max_of x y
max_zero x y p q h k =
    let a = zero_left x false p (yes k) in
    let b = zero_right a.0 y q (subst (λ (z : Float). T (eq z y)) a.1 (yes h)) in
    subst (λ (z : Float). add binary64 z y ≡ max_of z y) (sym a.1) (subst (λ (z : Float). add binary64 (fin a.0 0 (pos 0)) z ≡ max_of (fin a.0 0 (pos 0)) z) (sym b.1) (max_zeros a.0 b.0))

min_zeros : (s t : Bool) → neg (add binary64 (neg (fin s 0 (pos 0))) (neg (fin t 0 (pos 0)))) ≡ min_of (fin s 0 (pos 0)) (fin t 0 (pos 0))
unfolding add neg min_of lt is_nan
min_zeros true true = refl
min_zeros true false = refl
min_zeros false true = refl
min_zeros false false = refl

pub min_zero : (x y : Float) → T (fits binary64 x) → T (fits binary64 y) → eq x y ≡ true → eq x zero+ ≡ true → neg (add binary64 (neg x) (neg y)) ≡ min_of x y
min_zero x y p q h k =
    let a = zero_left x false p (yes k) in
    let b = zero_right a.0 y q (subst (λ (z : Float). T (eq z y)) a.1 (yes h)) in
    subst (λ (z : Float). neg (add binary64 (neg z) (neg y)) ≡ min_of z y) (sym a.1) (subst (λ (z : Float). neg (add binary64 (neg (fin a.0 0 (pos 0))) (neg z)) ≡ min_of (fin a.0 0 (pos 0)) z) (sym b.1) (min_zeros a.0 b.0))

either : (b : Bool) (x : Float) → x ≡ cond b x x
either true x = refl
either false x = refl

pub max_same : (x y : Float) → T (fits binary64 x) → T (fits binary64 y) → lt x y ≡ false → lt y x ≡ false → eq x y ≡ true → eq x zero+ ≡ false → x ≡ max_of x y
unfolding max_of
max_same x y p q h k e z =
    let n = eq_not_nan x y e in
    let s : x ≡ y = same x y p q (yes e) (no z) in
    either (negative x) x ∙ ap (λ (w : Float). cond (negative x) w x) s ∙ sym (rw (n.0, n.1, h, k))

pub min_same : (x y : Float) → T (fits binary64 x) → T (fits binary64 y) → lt x y ≡ false → lt y x ≡ false → eq x y ≡ true → eq x zero+ ≡ false → x ≡ min_of x y
unfolding min_of
min_same x y p q h k e z =
    let n = eq_not_nan x y e in
    let s : x ≡ y = same x y p q (yes e) (no z) in
    either (negative x) x ∙ ap (λ (w : Float). cond (negative x) x w) s ∙ sym (rw (n.0, n.1, h, k))

pub min_below : (x y : Float) → lt x y ≡ true → x ≡ min_of x y
unfolding min_of
min_below x y h = sym (rw ((lt_not_nan x y h).0, (lt_not_nan x y h).1, h))

pub min_above : (x y : Float) → lt x y ≡ false → lt y x ≡ true → y ≡ min_of x y
unfolding min_of
min_above x y h k = sym (rw ((lt_not_nan y x k).1, (lt_not_nan y x k).0, h, k))

-- where no comparison holds one of the two is a nan: `x != x` says which
nan_is : is_nan nan ≡ true
unfolding is_nan
nan_is = refl

is_nan_lem : (x : Float) → ne x x ≡ true → is_nan x ≡ true
is_nan_lem x h = ap is_nan (differs_from_itself x (yes h)) ∙ nan_is

no_nan : (x : Float) → ne x x ≡ false → is_nan x ≡ false
unfolding ne is_nan
no_nan nan h = absurd (true≢false h)
no_nan (inf s) h = refl
no_nan (fin s m e) h = refl

-- what `x != x` tells
pub nan_told : (x : Float) → ne x x ≡ true → nan ≡ x
nan_told x h = sym (differs_from_itself x (yes h))

pub number_told : (x : Float) → ne x x ≡ false → T (not (is_nan x))
number_told x h = subst (λ (b : Bool). T (not b)) (sym (no_nan x h)) tt

-- 0 in place of a not-a-number
pub numbered : (x : Float) {y : Float} → y ≡ cond (ne x x) (of_bits binary64 0) x → T (not (is_nan y))
numbered x {y} e = subst (λ (z : Float). T (not (is_nan z))) (sym e) (go (ne x x) refl)
  where
    go : (b : Bool) → ne x x ≡ b → T (not (is_nan (cond b (of_bits binary64 0) x)))
    go true h = unfold of_bits in unfold is_nan in tt
    go false h = number_told x h

pub max_nan_left : (x y : Float) → ne x x ≡ true → y ≡ max_of x y
unfolding max_of
max_nan_left x y h = sym (rw (is_nan_lem x h))

min_nan_second : (x y : Float) → ne y y ≡ true → x ≡ min_of x y
unfolding min_of is_nan
min_nan_second nan y h = nan_told y h
min_nan_second (inf s) y h = sym (rw (is_nan_lem y h))
min_nan_second (fin s m e) y h = sym (rw (is_nan_lem y h))

other_nan : (x y : Float) → lt x y ≡ false → lt y x ≡ false → eq x y ≡ false → ne x x ≡ false → is_nan y ≡ true
other_nan x y h k l n = elim (unequal_nan x y h k l) [ inl a ↦ absurd (false≢true (sym (no_nan x n) ∙ a)) | inr b ↦ b.1 ]

pub max_nan_right : (x y : Float) → lt x y ≡ false → lt y x ≡ false → eq x y ≡ false → ne x x ≡ false → x ≡ max_of x y
unfolding max_of
max_nan_right x y h k l n = sym (rw (no_nan x n, other_nan x y h k l n))

-- ---- t, or t + 1
pub half_less : (t d : Float) → lt d (fin false 1 (negsuc 0)) ≡ true → t ≡ half_up t d
unfolding half_up
half_less t d h = sym (rw h)

pub half_more : (t d : Float) → lt d (fin false 1 (negsuc 0)) ≡ false → add binary64 t (fin false 1 (pos 0)) ≡ half_up t d
unfolding half_up
half_more t d h = sym (rw h)

-- ---- clamp, by what the first test found (b) and the second
pub clamp_low : (x lo hi : Float) → lt x lo ≡ true → cond (lt hi lo) hi lo ≡ clamp_of x lo hi
unfolding clamp_of
clamp_low x lo hi h = sym (rw h)

pub clamp_high : (x lo hi : Float) → lt x lo ≡ false → cond (lt hi x) hi x ≡ clamp_of x lo hi
unfolding clamp_of
clamp_high x lo hi h = sym (rw h)

-- ---- rem_euclid
pub rem_neg : (x y : Float) → lt (rem binary64 x y) zero+ ≡ true → add binary64 (rem binary64 x y) (abs_of y) ≡ rem_euclid_of x y
unfolding rem_euclid_of
rem_neg x y h = sym (rw h)

pub rem_else : (x y : Float) → lt (rem binary64 x y) zero+ ≡ false → rem binary64 x y ≡ rem_euclid_of x y
unfolding rem_euclid_of
rem_else x y h = sym (rw h)

-- what `cond` picks
pub picks : (b : Bool) (x y : Float) → b ≡ true → x ≡ cond b x y
picks b x y h = sym (rw h)

pub leaves : (b : Bool) (x y : Float) → b ≡ false → y ≡ cond b x y
leaves b x y h = sym (rw h)

-- ---- `max` and `min`, as the code picks them
by_cases : {P : Type 0} (b : Bool) → (b ≡ true → P) → (b ≡ false → P) → P
by_cases true f g = f refl
by_cases false f g = g refl

pub both_true : (a b : Bool) → (a && b) ≡ true → (a ≡ true) × (b ≡ true)
both_true true true h = (refl, refl)
both_true true false h = absurd (false≢true h)
both_true false b h = absurd (false≢true h)

zeros_equal : (s t : Bool) → eq (fin s 0 (pos 0)) (fin t 0 (pos 0)) ≡ true
unfolding eq
zeros_equal true true = refl
zeros_equal true false = refl
zeros_equal false true = refl
zeros_equal false false = refl

-- two zeros are equal, and what is equal to a zero is one
equal_zeros : (x y : Float) → T (fits binary64 x) → T (fits binary64 y) → eq x zero+ ≡ true → eq y zero+ ≡ true → eq x y ≡ true
equal_zeros x y p q h k =
    let a = zero_left x false p (yes h) in
    let b = zero_left y false q (yes k) in
    rw (a.1, b.1) (zeros_equal a.0 b.0)

zero_passed : (x y : Float) → T (fits binary64 x) → T (fits binary64 y) → eq x y ≡ true → eq x zero+ ≡ true → eq y zero+ ≡ true
zero_passed x y p q h k =
    let a = zero_left x false p (yes k) in
    let b = zero_right a.0 y q (subst (λ (z : Float). T (eq z y)) a.1 (yes h)) in
    rw b.1 (zeros_equal b.0 false)

module _ (x y : Float) (p : T (fits binary64 x)) (q : T (fits binary64 y)) where
  -- equal, and not both zero: not a zero
  no_zero : (eq x zero+ && eq y zero+) ≡ false → eq x y ≡ true → eq x zero+ ≡ false
  no_zero h e = by_cases (eq x zero+) (λ k. absurd (true≢false (sym (rw (k, zero_passed x y p q e k)) ∙ h))) (λ k. k)

  pub max_picked : cond (eq x zero+ && eq y zero+) (add binary64 x y) (cond (ne x x) y (cond (lt x y) y x)) ≡ max_of x y
  max_picked =
      by_cases (eq x zero+ && eq y zero+)
      (λ h. let z = both_true _ _ h in rw h (max_zero x y p q (equal_zeros x y p q z.0 z.1) z.0))
      (λ h.
      by_cases (ne x x) (λ n. rw (h, n) (max_nan_left x y n))
      (λ n.
      by_cases (lt x y) (λ l. rw (h, n, l) (max_below x y l))
      (λ l.
      rw (h, n, l)
      (by_cases (lt y x) (λ g. max_above x y l g)
      (λ g. by_cases (eq x y) (λ e. max_same x y p q l g e (no_zero h e)) (λ e. max_nan_right x y l g e n))))))

  y_smaller : (eq x zero+ && eq y zero+) ≡ false → ne y y ≡ false → lt x y ≡ false → y ≡ min_of x y
  unfolding min_of
  y_smaller h n l =
      by_cases (lt y x) (λ g. min_above x y l g)
      (λ g.
      by_cases (eq x y) (λ e. sym (same x y p q (yes e) (no (no_zero h e))) ∙ min_same x y p q l g e (no_zero h e))
      (λ e. elim (unequal_nan x y l g e) [ inl a ↦ sym (rw a) | inr b ↦ absurd (false≢true (sym (no_nan y n) ∙ b.1)) ]))

  pub min_picked : cond (eq x zero+ && eq y zero+) (neg (add binary64 (neg x) (neg y))) (cond (ne y y) x (cond (lt x y) x y)) ≡ min_of x y
  min_picked =
      by_cases (eq x zero+ && eq y zero+)
      (λ h. let z = both_true _ _ h in rw h (min_zero x y p q (equal_zeros x y p q z.0 z.1) z.0))
      (λ h.
      by_cases (ne y y) (λ n. rw (h, n) (min_nan_second x y n))
      (λ n. by_cases (lt x y) (λ l. rw (h, n, l) (min_below x y l)) (λ l. rw (h, n, l) (y_smaller h n l))))
