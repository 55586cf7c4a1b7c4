-- A product with a zero may be left out of a sum, where only the magnitude is asked (`drop-zero`), and so may a step of nothing (`still-square`); and what
-- is less than 1 away from 0, a step of 1 added, is finite (`stepped-finite`). Assumes nothing.
use mathlib.Core.Path.{◌≡◌, refl, sym, ap, ◌∙◌}
use mathlib.Core.Logic.{inl, inr}
use mathlib.Core.Bool.{Bool, true, false, not, cond, ◌&&◌, false≢true}
use Prim.Native.Nat.{ℕ, ◌+◌, ◌-◌, ◌*◌}
use native.Mathlib.Nat.{mul-pos, mul-one, one-mul, zero-mul, zero-lt-suc}
use native.Mathlib.Omega.{arith}
use lib.IntN.{ℤ, pos}
use lib.Dec.{T, eqb, eqb→eq}
use lib.Ieee.{Float, nan, inf, fin, binary64, up, down, neg, add, mul, lt, le, eq, fits, unlike, of_bits}
use lib.Ieee.Fits.{down_pos, neg-fits, and_l}
use lib.Ieee.Scale.{finite}
use lib.Ieee.Positive.{den}
use Rattle.float.specs.Def.{abs_of}
use Rattle.float.specs.Arith.{◌⊕◌, ◌⊗◌, bits}
use Rattle.float.proofs.Branches.{zero+, IsZero, yes}
use Rattle.float.proofs.Unique.{round_own}
use Rattle.cell_square.specs.Square.{square, step_of, in_half}
use Rattle.cell_square.proofs.Law.{square_neg, under_zero}
use Rattle.cell_square.proofs.Keeps.{plus_of, minus_of, Rounded, le_through, le_turned, add_rounded, between_finite, Amid}
use Rattle.cell_square.proofs.Opposite.{Opposite, rounded_opposite, opposite_square, null}
use Rattle.cell_square.proofs.Spread.{le_of_lt, add_amid}

-- ---- a float is what it rounds to
none_less : (a : ℕ) → a ≡ a - 0
none_less a = omega arith

own_rounded : (x : Float) → T (finite x) → T (fits binary64 x) → Rounded x (plus_of x) (minus_of x) (den x)
own_rounded nan p F = absurd p
own_rounded (inf s) p F = absurd p
own_rounded (fin true m e) p F = inr (omega arith, sym (round_own binary64 (fin true m e) true (m * up e - 0) (down e) (down_pos e) F (refl, ap (λ (k : ℕ). k * down e) (none_less (m * up e)))))
own_rounded (fin false m e) p F = inl (omega arith, sym (round_own binary64 (fin false m e) false (m * up e - 0) (down e) (down_pos e) F (refl, ap (λ (k : ℕ). k * down e) (none_less (m * up e)))))

-- ---- 0 + p
no_plus : (t : Bool) → plus_of (fin t 0 (pos 0)) ≡ 0
no_plus true = refl
no_plus false = refl

no_minus : (t : Bool) → minus_of (fin t 0 (pos 0)) ≡ 0
no_minus true = refl
no_minus false = refl

plus_not : (s : Bool) (m : ℕ) (e : ℤ) → plus_of (fin (not s) m e) ≡ minus_of (fin s m e)
plus_not true m e = refl
plus_not false m e = refl

minus_not : (s : Bool) (m : ℕ) (e : ℤ) → minus_of (fin (not s) m e) ≡ plus_of (fin s m e)
minus_not true m e = refl
minus_not false m e = refl

cross : (A B Z d : ℕ) → A ≡ B → Z ≡ 0 → A * (1 * d) ≡ (Z * d + B * 1) * d
cross A B Z d e f = ap (λ (k : ℕ). A * k) (one-mul d) ∙ ap (λ (k : ℕ). k * d) (flat A B Z d e f)
  where
    flat : (A B Z d : ℕ) → A ≡ B → Z ≡ 0 → A ≡ Z * d + B * 1
    flat A B Z d e f = omega (arith, e, ap (λ (k : ℕ). k * d) f, zero-mul d)

zero_plus : (t s : Bool) (m : ℕ) (e : ℤ) → T (fits binary64 (fin s m e)) → T (fits binary64 (fin (not s) m e)) → Opposite (fin t 0 (pos 0) ⊕ fin s m e) (fin (not s) m e)
zero_plus t s m e F G =
    let z = fin t 0 (pos 0) in
    let p = fin s m e in
    let n = fin (not s) m e in
    rounded_opposite (z ⊕ p) n (plus_of z * down e + plus_of p * 1) (minus_of z * down e + minus_of p * 1) (1 * down e) (plus_of n) (minus_of n) (down e)
    (mul-pos (zero-lt-suc 0) (down_pos e)) (down_pos e) (add_rounded z p tt tt) (own_rounded n tt G)
    (cross (plus_of n) (minus_of p) (minus_of z) (down e) (plus_not s m e) (no_minus t))
    (cross (minus_of n) (plus_of p) (plus_of z) (down e) (minus_not s m e) (no_plus t))

zero_left : (t : Bool) (p : Float) → T (fits binary64 p) → Opposite (fin t 0 (pos 0) ⊕ p) (neg p)
unfolding neg
zero_left t nan F = inl (unfold add in refl)
zero_left t (inf s) F = inl (unfold add in refl)
zero_left t (fin s m e) F = zero_plus t s m e F (neg-fits binary64 (fin s m e) F)

zeros_sum : (s t : Bool) → IsZero (fin s 0 (pos 0) ⊕ fin t 0 (pos 0))
unfolding add
zeros_sum true true = (true, refl)
zeros_sum true false = (false, refl)
zeros_sum false true = (false, refl)
zeros_sum false false = (false, refl)

pub null_sum : {x y : Float} → IsZero x → IsZero y → IsZero (x ⊕ y)
null_sum a b = rw (a.1, b.1) (zeros_sum a.0 b.0)

-- a zero is left out
pub drop_zero : {z p q : Float} → IsZero z → T (fits binary64 p) → Opposite p q → Opposite (z ⊕ p) q
drop_zero {z} {p} {q} a F (inl e) = rw (a.1, e) (zero_left a.0 p F)
drop_zero {z} {p} {q} a F (inr e) = inr (null_sum a e.0, e.1)

-- ---- p + 0
cross_last : (A B Z d : ℕ) → A ≡ B → Z ≡ 0 → A * (d * 1) ≡ (B * 1 + Z * d) * d
cross_last A B Z d e f = ap (λ (k : ℕ). A * k) (mul-one d) ∙ ap (λ (k : ℕ). k * d) (flat A B Z d e f)
  where
    flat : (A B Z d : ℕ) → A ≡ B → Z ≡ 0 → A ≡ B * 1 + Z * d
    flat A B Z d e f = omega (arith, e, ap (λ (k : ℕ). k * d) f, zero-mul d)

plus_zero : (t s : Bool) (m : ℕ) (e : ℤ) → T (fits binary64 (fin (not s) m e)) → Opposite (fin s m e ⊕ fin t 0 (pos 0)) (fin (not s) m e)
plus_zero t s m e G =
    let z = fin t 0 (pos 0) in
    let p = fin s m e in
    let n = fin (not s) m e in
    rounded_opposite (p ⊕ z) n (plus_of p * 1 + plus_of z * down e) (minus_of p * 1 + minus_of z * down e) (down e * 1) (plus_of n) (minus_of n) (down e)
    (mul-pos (down_pos e) (zero-lt-suc 0)) (down_pos e) (add_rounded p z tt tt) (own_rounded n tt G)
    (cross_last (plus_of n) (minus_of p) (minus_of z) (down e) (plus_not s m e) (no_minus t))
    (cross_last (minus_of n) (plus_of p) (plus_of z) (down e) (minus_not s m e) (no_plus t))

zero_last : (t : Bool) (p : Float) → T (fits binary64 p) → Opposite (p ⊕ fin t 0 (pos 0)) (neg p)
unfolding neg
zero_last t nan F = inl (unfold add in refl)
zero_last t (inf s) F = inl (unfold add in refl)
zero_last t (fin s m e) F = plus_zero t s m e (neg-fits binary64 (fin s m e) F)

-- a step of nothing leaves the square
pub still_square : (x : Float) → T (fits binary64 x) → square (x ⊕ bits 0) ≡ square x
unfolding of_bits
still_square x F = opposite_square (x ⊕ bits 0) (neg x) (zero_last false x F) ∙ square_neg x

-- ---- a product with a zero is one
is_null : (a b : ℕ) (c : Bool) → T (eqb (a * 1) (0 * 1 * b) && c) → a ≡ 0
is_null a b c t = none a b (eqb→eq (a * 1) (0 * 1 * b) (and_l (eqb (a * 1) (0 * 1 * b)) c t))
  where
    none : (a b : ℕ) → a * 1 ≡ 0 * 1 * b → a ≡ 0
    none a b h = omega arith

pub zero_product : (c x : Float) → eq c (bits 0) ≡ true → T (finite x) → IsZero (c ⊗ x)
unfolding mul eq of_bits
zero_product nan x h p = absurd (false≢true h)
zero_product (inf s) x h p = absurd (false≢true h)
zero_product (fin s m e) nan h p = absurd p
zero_product (fin s m e) (inf t) h p = absurd p
zero_product (fin s m e) (fin t n d) h p =
    null _ (unlike s t) (m * up e * (n * up d)) (down e * down d) refl (mul-pos (down_pos e) (down_pos d)) (ap (λ (k : ℕ). k * (n * up d)) (is_null (m * up e) (down e) _ (yes h)) ∙ zero-mul (n * up d))

-- ---- from -1 up to 1, and a step of 1
abbrev one : Float
one = bits 0x3ff0_0000_0000_0000

one_up : T (le zero+ one)
unfolding of_bits le
one_up = tt

one_down : T (le (neg one) zero+)
unfolding of_bits neg le
one_down = tt

upward : (m : ℕ) (e : ℤ) → T (le zero+ (fin false m e))
unfolding neg
upward m e = le_through zero+ (neg zero+) (fin false m e) (unfold le in tt) (le_turned (fin true m e) zero+ (yes (under_zero m e)))

in_one : (x : Float) → lt (abs_of x) one ≡ true → Amid (neg one) x one
unfolding abs_of neg
in_one nan h = absurd (false≢true (unfold lt in h))
in_one (inf s) h = absurd (false≢true (unfold of_bits in unfold lt in h))
in_one (fin true m e) h = record { low = le_turned (fin false m e) one (le_of_lt (fin false m e) one h); high = le_through (fin true m e) zero+ one (yes (under_zero m e)) one_up }
in_one (fin false m e) h = record { low = le_through (neg one) zero+ (fin false m e) one_down (upward m e); high = le_of_lt (fin false m e) one h }

step_in : (b c : Bool) → Amid (neg one) (cond b (bits 0) (cond c (neg one) one)) one
unfolding of_bits neg le
step_in true c = record { low = tt; high = tt }
step_in false true = record { low = tt; high = tt }
step_in false false = record { low = tt; high = tt }

two_finite : T (finite (one ⊕ one))
unfolding of_bits add
two_finite = tt

two_down : T (finite (neg one ⊕ neg one))
unfolding of_bits neg add
two_down = tt

one_finite : T (finite one)
unfolding of_bits
one_finite = tt

neg_finite : T (finite (neg one))
unfolding of_bits neg
neg_finite = tt

pub stepped_finite : (x low high : Float) → lt (abs_of x) one ≡ true → T (finite (x ⊕ step_of one low high))
unfolding step_of
stepped_finite x low high h =
    let s = step_of one low high in
    let a = add_amid (neg one) x one (neg one) s one neg_finite one_finite neg_finite one_finite (in_one x h) (step_in (in_half one low && in_half one high) (not (in_half one low) && lt (bits 0) low)) in
    between_finite (neg one ⊕ neg one) (x ⊕ s) (one ⊕ one) two_down two_finite a.low a.high
