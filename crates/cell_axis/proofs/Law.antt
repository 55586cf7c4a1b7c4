-- `near-law`: for |x| below len, x - len * round(x / len) is x + 0 where |x| + |x| < len, and x brought one len toward 0 otherwise. Assumes nothing.
use mathlib.Core.Path.{◌≡◌, refl, sym, ap, ◌∙◌, subst}
use Prim.Native.Nat.{ℕ, zero, suc, ◌+◌, ◌-◌, ◌*◌, ◌^◌, ◌≤◌, ◌<◌}
use native.Mathlib.Nat.{mul-one, zero-mul, mul-zero, mul-pos, zero-lt-suc, le_of_lt}
use native.Mathlib.Omega.{arith}
use mathlib.Core.Bool.{Bool, true, false, not, cond, false≢true}
use lib.IntN.{ℤ, pos}
use lib.Dec.{T, eqb, ltb→lt, eqb→eq, not_T}
use lib.Ieee.Bits.{is_false}
use lib.Ieee.{Float, nan, inf, fin, binary64, up, down, neg, add, sub, mul, div, lt, le, eq, fits, round, of_bits}
use lib.Ieee.Fits.{down_pos, up_pos}
use Rattle.float.specs.Def.{abs_of, round_of}
use Rattle.float.specs.Arith.{◌⊕◌}
use Rattle.float.proofs.Branches.{zero+, yes, sign_fits}
use Rattle.float.proofs.Unique.{round_own, holds}
use Rattle.float.proofs.Fraction.{add_at, sub_at, round_neg}
use Rattle.float.proofs.Whole.{pos_not_below, neg_below}
use Rattle.cell_axis.specs.Image.{nearest_of, shift_of, near_axis_of}
use Rattle.cell_axis.proofs.Quotient.{few_digits, to_zero, to_one, signed_quotient}
use Rattle.cell_axis.proofs.Double.{double_below, double_reaches}

pub not_zero : (n : ℕ) → eqb (suc n) 0 ≡ false
not_zero n = is_false (eqb (suc n) 0) (not_T (eqb (suc n) 0) (λ t. no_suc n (eqb→eq (suc n) 0 t)))
  where
    no_suc : (n : ℕ) → suc n ≡ 0 → ⊥
    no_suc n h = omega arith

pub div_is : (s : Bool) (m n : ℕ) (e d : ℤ) → div binary64 (fin s m e) (fin false (suc n) d) ≡ round binary64 s (m * up e * down d) (suc n * up d * down e)
unfolding div
div_is true m n e d = rw (not_zero n)
div_is false m n e d = rw (not_zero n)

-- ---- len times the rounded quotient
zero_fits : (s : Bool) → T (fits binary64 (fin s 0 (pos 0)))
unfolding fits
zero_fits s = tt

pub zero_times : (s : Bool) (n : ℕ) (d : ℤ) → mul binary64 (fin false n d) (fin s 0 (pos 0)) ≡ fin s 0 (pos 0)
unfolding mul
zero_times true n d = ap (λ (z : ℕ). round binary64 true z (down d * 1)) (mul-zero (n * up d)) ∙ round_own binary64 (fin true 0 (pos 0)) true 0 (down d * 1) (mul-pos (down_pos d) (zero-lt-suc 0)) (zero_fits true) (refl, zero-mul (down d * 1))
zero_times false n d = ap (λ (z : ℕ). round binary64 false z (down d * 1)) (mul-zero (n * up d)) ∙ round_own binary64 (fin false 0 (pos 0)) false 0 (down d * 1) (mul-pos (down_pos d) (zero-lt-suc 0)) (zero_fits false) (refl, zero-mul (down d * 1))

once : (n : ℕ) (d : ℤ) → T (fits binary64 (fin false n d)) → round binary64 false (n * up d * 1) (down d * 1) ≡ fin false n d
once n d F = round_own binary64 (fin false n d) false (n * up d * 1) (down d * 1) (mul-pos (down_pos d) (zero-lt-suc 0)) F (refl, flat (n * up d) (down d))
  where
    flat : (a b : ℕ) → a * (b * 1) ≡ a * 1 * b
    flat a b = simp (mul-one)

one_times : (s : Bool) (n : ℕ) (d : ℤ) → T (fits binary64 (fin false n d)) → mul binary64 (fin false n d) (fin s 1 (pos 0)) ≡ fin s n d
unfolding mul neg
one_times true n d F = sym (round_neg binary64 (n * up d * 1) (down d * 1)) ∙ ap neg (once n d F)
one_times false n d F = once n d F

-- ---- x less that
pub less_zero : (s : Bool) (m : ℕ) (e : ℤ) → sub binary64 (fin s m e) (fin s 0 (pos 0)) ≡ add binary64 (fin s m e) zero+
unfolding sub neg
less_zero true m e = refl
less_zero false m e =
    let x = m * up e in
    sub_at binary64 (fin false m e) zero+ x (down e) 0 1 (down_pos e) (zero-lt-suc 0) (refl, refl) (refl, refl) (none x (down e))
    ∙ ap (λ (z : ℕ). round binary64 false z (down e * 1)) (same x (down e))
    ∙ sym (add_at binary64 (fin false m e) zero+ x (down e) 0 1 (down_pos e) (zero-lt-suc 0) (refl, refl) (refl, refl))
  where
    none : (x d : ℕ) → 0 * d ≤ x * 1
    none x d = omega arith

    same : (x d : ℕ) → x * 1 - 0 * d ≡ x * 1 + 0 * d
    same x d = omega arith

-- a step toward 0
step : Bool → ℕ → ℤ → Float
step s n d = fin (not s) n d

less_one : (s : Bool) (m n : ℕ) (e d : ℤ) → sub binary64 (fin s m e) (fin s n d) ≡ add binary64 (fin s m e) (step s n d)
unfolding sub neg step
less_one s m n e d = refl

module _ (m n : ℕ) (e d : ℤ) where
  no_double : m ≡ 0 → suc n * up d * down e ≤ 2 * (m * up e * down d) → ⊥
  no_double z h =
      clash (suc n * up d * down e) (m * up e * down d) (mul-pos (mul-pos (zero-lt-suc n) (up_pos d)) (down_pos e))
      (ap (λ (k : ℕ). k * up e * down d) z ∙ ap (λ (k : ℕ). k * down d) (zero-mul (up e)) ∙ zero-mul (down d)) h
    where
      clash : (q p : ℕ) → 0 < q → p ≡ 0 → q ≤ 2 * p → ⊥
      clash q p a b c = omega arith

-- the step that the code picks, where twice |x| reaches len
pub above_zero : (m : ℕ) (e : ℤ) → le (fin false (suc m) e) zero+ ≡ false
unfolding le eq
above_zero m e = rw (pos_not_below (suc m) e, is_false (eqb (suc m * up e * 1) (0 * 1 * down e)) (not_T (eqb (suc m * up e * 1) (0 * 1 * down e)) (λ t. differ (suc m * up e) (down e) (mul-pos (zero-lt-suc m) (up_pos e)) (eqb→eq (suc m * up e * 1) (0 * 1 * down e) t))))
  where
    differ : (a d : ℕ) → 0 < a → a * 1 ≡ 0 * 1 * d → ⊥
    differ a d h e = omega arith

under_zero : (m : ℕ) (e : ℤ) → le (fin true (suc m) e) zero+ ≡ true
unfolding le
under_zero m e = rw (neg_below m e)

picked : (s : Bool) (m n : ℕ) (e d : ℤ) → suc n * up d * down e ≤ 2 * (m * up e * down d) → cond (le (fin s m e) zero+) (fin false (suc n) d) (neg (fin false (suc n) d)) ≡ step s (suc n) d
unfolding neg step
picked s zero n e d h = absurd (no_double zero n e d refl h)
picked false (suc m) n e d h = rw (above_zero m e)
picked true (suc m) n e d h = rw (under_zero m e)

short : (m : ℕ) (e : ℤ) → T (fits binary64 (fin false m e)) → m < 2 ^ 53
short zero e F = zero-lt-suc (2 ^ 53 - 1)
short (suc m) e F = (holds binary64 false m e F).short

module _ (s : Bool) (m n : ℕ) (e d : ℤ) (G : T (fits binary64 (fin false m e))) (F : T (fits binary64 (fin false (suc n) d))) (h : m * up e * down d < suc n * up d * down e) where
  room : 0 < suc n * up d * down e
  room = mul-pos (mul-pos (zero-lt-suc n) (up_pos d)) (down_pos e)

  quotient_zero : 2 * (m * up e * down d) < suc n * up d * down e → round_of (div binary64 (fin s m e) (fin false (suc n) d)) ≡ fin s 0 (pos 0)
  quotient_zero g =
      let P = m * up e * down d in
      let Q = suc n * up d * down e in
      ap round_of (div_is s m n e d) ∙ signed_quotient s P Q 0 room (le_of_lt h) (to_zero P Q room (few_digits m (suc n) e d (short m e G) (short (suc n) d F) g))

  quotient_one : suc n * up d * down e ≤ 2 * (m * up e * down d) → round_of (div binary64 (fin s m e) (fin false (suc n) d)) ≡ fin s 1 (pos 0)
  quotient_one g =
      let P = m * up e * down d in
      let Q = suc n * up d * down e in
      ap round_of (div_is s m n e d) ∙ signed_quotient s P Q 1 room (le_of_lt h) (to_one P Q room g (le_of_lt h))

  near_zero : 2 * (m * up e * down d) < suc n * up d * down e → add binary64 (fin s m e) zero+ ≡ nearest_of (fin false (suc n) d) (fin s m e)
  unfolding nearest_of
  near_zero g =
      sym (ap (λ (z : Float). sub binary64 (fin s m e) (mul binary64 (fin false (suc n) d) z)) (quotient_zero g)
      ∙ ap (λ (z : Float). sub binary64 (fin s m e) z) (zero_times s (suc n) d)
      ∙ less_zero s m e)

  near_one : suc n * up d * down e ≤ 2 * (m * up e * down d) → add binary64 (fin s m e) (cond (le (fin s m e) zero+) (fin false (suc n) d) (neg (fin false (suc n) d))) ≡ nearest_of (fin false (suc n) d) (fin s m e)
  unfolding nearest_of
  near_one g =
      ap (λ (z : Float). add binary64 (fin s m e) z) (picked s m n e d g)
      ∙ sym (ap (λ (z : Float). sub binary64 (fin s m e) (mul binary64 (fin false (suc n) d) z)) (quotient_one g)
      ∙ ap (λ (z : Float). sub binary64 (fin s m e) z) (one_times s (suc n) d F)
      ∙ less_one s m (suc n) e d)

  near_both : (b : Bool) → lt (add binary64 (fin false m e) (fin false m e)) (fin false (suc n) d) ≡ b
      → add binary64 (fin s m e) (cond b zero+ (cond (le (fin s m e) zero+) (fin false (suc n) d) (neg (fin false (suc n) d)))) ≡ nearest_of (fin false (suc n) d) (fin s m e)
  near_both true t = near_zero (double_below binary64 m n e d F t)
  near_both false t = near_one (double_reaches binary64 m n e d G F t)

  near_fin : add binary64 (fin s m e) (shift_of (fin false m e) (fin false (suc n) d) (fin s m e)) ≡ nearest_of (fin false (suc n) d) (fin s m e)
  unfolding shift_of of_bits
  near_fin = near_both (lt (add binary64 (fin false m e) (fin false m e)) (fin false (suc n) d)) refl

-- ---- the law. y is any bound: it only keeps an infinite len out.
pub not_under_zero : (a u d : ℕ) → a < 0 * u * d → ⊥
not_under_zero a u d h = none a (subst (λ (z : ℕ). a < z) (ap (λ (z : ℕ). z * d) (zero-mul u) ∙ zero-mul d) h)
  where
    none : (a : ℕ) → a < 0 → ⊥
    none a h = omega arith

by_len : (len y : Float) (s : Bool) (m : ℕ) (e : ℤ) → T (fits binary64 (fin s m e)) → T (fits binary64 len) → lt (fin false m e) len ≡ true → lt len y ≡ true
    → add binary64 (fin s m e) (shift_of (fin false m e) len (fin s m e)) ≡ nearest_of len (fin s m e)
unfolding lt
by_len nan y s m e G F h k = absurd (false≢true h)
by_len (inf true) y s m e G F h k = absurd (false≢true h)
by_len (inf false) nan s m e G F h k = absurd (false≢true k)
by_len (inf false) (inf t) s m e G F h k = absurd (false≢true k)
by_len (inf false) (fin t q g) s m e G F h k = absurd (false≢true k)
by_len (fin true n d) y s m e G F h k = absurd (false≢true h)
by_len (fin false zero d) y s m e G F h k = absurd (not_under_zero (m * up e * down d) (up d) (down e) (ltb→lt (m * up e * down d) (0 * up d * down e) (yes h)))
by_len (fin false (suc n) d) y s m e G F h k = near_fin s m n e d (sign_fits s m e G) F (ltb→lt (m * up e * down d) (suc n * up d * down e) (yes h))

inf_not_below : (len y : Float) → lt (inf false) len ≡ true → ⊥
unfolding lt
inf_not_below nan y h = false≢true h
inf_not_below (inf t) y h = false≢true h
inf_not_below (fin t n d) y h = false≢true h

pub near_law : (len x y : Float) → T (fits binary64 len) → T (fits binary64 x) → lt (abs_of x) len ≡ true → lt len y ≡ true → add binary64 x (shift_of (abs_of x) len x) ≡ nearest_of len x
unfolding abs_of
near_law len nan y F G h k = absurd (nan_not_below len h)
  where
    nan_not_below : (len : Float) → lt nan len ≡ true → ⊥
    nan_not_below len h = false≢true (unfold lt in h)
near_law len (inf s) y F G h k = absurd (inf_not_below len y h)
near_law len (fin s m e) y F G h k = by_len len y s m e G F h k

-- the same as the code has it: a is the magnitude, y any bound, r the short way's answer
pub near_apart : (len x y a r : Float) → T (fits binary64 len) → T (fits binary64 x) → a ≡ abs_of x → lt a len ≡ true → lt len y ≡ true → r ≡ near_axis_of a len x → r ≡ nearest_of len x
unfolding near_axis_of
near_apart len x y a r F G A h k R = R ∙ ap (λ (z : Float). x ⊕ shift_of z len x) A ∙ near_law len x y F G (subst (λ (z : Float). lt z len ≡ true) A h) k

-- what is below anything is below infinity
pub bounded : (x y : Float) → lt x y ≡ true → lt x (inf false) ≡ true
bounded nan y h = absurd (false≢true (unfold lt in h))
bounded (inf true) y h = unfold lt in refl
bounded (inf false) y h = absurd (inf_not_below y y h)
bounded (fin s m e) y h = unfold lt in refl
