-- Less than half a length on one axis: the difference is short (`inner-short`), and its image is the difference with a 0 added (`inner-image`). A 0 added
-- changes no image (`settled-image`). Assumes nothing.
use mathlib.Core.Path.{◌≡◌, refl, sym, ap, ◌∙◌, subst}
use mathlib.Core.Logic.{◌⊎◌, inl, inr, ⊎_elim}
use mathlib.Core.Bool.{Bool, true, false, cond, false≢true}
use Prim.Native.Nat.{ℕ, zero, suc, ◌*◌, ◌<◌}
use native.Mathlib.Nat.{add-zero, sub-zero, mul-one, zero-mul, mul-pos, zero-lt-suc}
use native.Mathlib.Omega.{arith}
use borrow.Author.Tests.{lt-ltb, le-ltb}
use lib.IntN.{ℤ, pos}
use lib.Dec.{T, ltb→lt}
use lib.Ieee.{Float, nan, inf, fin, binary64, up, down, add, sum, round, lt, fits, of_bits}
use lib.Ieee.Fits.{down_pos, up_pos}
use Rattle.float.specs.Def.{abs_of}
use Rattle.float.specs.Arith.{◌⊕◌, bits}
use Rattle.float.proofs.Branches.{zero+, yes}
use Rattle.float.proofs.Unique.{round_own, zero_exp}
use Rattle.cell_axis.specs.Image.{nearest_of, shift_of, near_axis_of}
use Rattle.cell_axis.proofs.Double.{double_below}
use Rattle.cell_axis.proofs.Law.{near_law, not_under_zero}
use Rattle.cell_axis.proofs.Twice.{twice}
use Rattle.cell_prepared.specs.Facts.{short_axis}

-- ---- no magnitude is below what is not above 0
below_nan : (z : Float) → lt (abs_of z) nan ≡ true → ⊥
unfolding abs_of lt
below_nan nan h = false≢true h
below_nan (inf s) h = false≢true h
below_nan (fin s m e) h = false≢true h

below_least : (z : Float) → lt (abs_of z) (inf true) ≡ true → ⊥
unfolding abs_of lt
below_least nan h = false≢true h
below_least (inf s) h = false≢true h
below_least (fin s m e) h = false≢true h

below_minus : (z : Float) (n : ℕ) (d : ℤ) → lt (abs_of z) (fin true n d) ≡ true → ⊥
unfolding abs_of lt
below_minus nan n d h = false≢true h
below_minus (inf s) n d h = false≢true h
below_minus (fin s m e) n d h = false≢true h

below_none : (z : Float) (d : ℤ) → lt (abs_of z) (fin false 0 d) ≡ true → ⊥
unfolding abs_of lt
below_none nan d h = false≢true h
below_none (inf s) d h = false≢true h
below_none (fin s m e) d h = not_under_zero (m * up e * down d) (up d) (down e) (ltb→lt (m * up e * down d) (0 * up d * down e) (yes h))

half : (p q : ℕ) → 2 * p < q → p < q
half p q h = omega arith

under : (m n : ℕ) (e d : ℤ) → m * up e * down d < suc n * up d * down e → lt (fin false m e) (fin false (suc n) d) ≡ true
unfolding lt
under m n e d h = lt-ltb (m * up e * down d) (suc n * up d * down e) h

doubled : (s : Bool) (m : ℕ) (e : ℤ) → abs_of (add binary64 (fin s m e) (fin s m e)) ≡ add binary64 (fin false m e) (fin false m e)
unfolding abs_of
doubled s m e = twice (fin s m e)

finite_short : (len : Float) (s : Bool) (m : ℕ) (e : ℤ) → T (fits binary64 len) → lt (abs_of (add binary64 (fin s m e) (fin s m e))) len ≡ true → lt (fin false m e) len ≡ true
finite_short nan s m e F h = absurd (below_nan (add binary64 (fin s m e) (fin s m e)) h)
finite_short (inf true) s m e F h = absurd (below_least (add binary64 (fin s m e) (fin s m e)) h)
finite_short (inf false) s m e F h = unfold lt in refl
finite_short (fin true n d) s m e F h = absurd (below_minus (add binary64 (fin s m e) (fin s m e)) n d h)
finite_short (fin false zero d) s m e F h = absurd (below_none (add binary64 (fin s m e) (fin s m e)) d h)
finite_short (fin false (suc n) d) s m e F h =
    under m n e d
    (half (m * up e * down d) (suc n * up d * down e) (double_below binary64 m n e d F (ap (λ (z : Float). lt z (fin false (suc n) d)) (sym (doubled s m e)) ∙ h)))

pub inner_short : (len x : Float) → T (fits binary64 len) → lt (abs_of (x ⊕ x)) len ≡ true → lt (abs_of x) len ≡ true
inner_short len nan F h = unfold add in h
inner_short len (inf true) F h = unfold add in h
inner_short len (inf false) F h = unfold add in h
inner_short len (fin s m e) F h = unfold abs_of in finite_short len s m e F h

no_shift : (len x : Float) → lt (abs_of (x ⊕ x)) len ≡ true → x ⊕ bits 0 ≡ near_axis_of (abs_of x) len x
no_shift len x h = unfold near_axis_of in unfold shift_of in sym (rw (← twice x, h))

pub inner_image : (len x : Float) → T (fits binary64 len) → T (fits binary64 x) → lt (abs_of (x ⊕ x)) len ≡ true → x ⊕ bits 0 ≡ short_axis len x
inner_image len x F G h = unfold short_axis in no_shift len x h ∙ go (lt len (inf false)) refl
  where
    go : (b : Bool) → lt len (inf false) ≡ b → near_axis_of (abs_of x) len x ≡ cond b (nearest_of len x) (near_axis_of (abs_of x) len x)
    go true e = unfold near_axis_of in near_law len x (inf false) F G (inner_short len x F h) e
    go false e = refl

-- ---- with a 0 added it is what it was, or it was a -0
abbrev minus : Float
minus = fin true 0 (pos 0)

sum_none : (s : Bool) (a c : ℕ) → 0 < a → sum binary64 s a false 0 c ≡ round binary64 s a c
unfolding sum
sum_none false a c h = ap (λ (z : ℕ). round binary64 false z c) (add-zero a)
sum_none true a c h = rw (le-ltb a 0 (omega arith), lt-ltb 0 a h, sub-zero a)

own_sum : (s : Bool) (m : ℕ) (e : ℤ) → T (fits binary64 (fin s (suc m) e)) → fin s (suc m) e ⊕ zero+ ≡ fin s (suc m) e
unfolding add
own_sum s m e F =
    ap (λ (z : ℕ). sum binary64 s (suc m * up e * 1) false z (down e * 1)) (zero-mul (down e))
    ∙ sum_none s (suc m * up e * 1) (down e * 1) (mul-pos (mul-pos (zero-lt-suc m) (up_pos e)) (zero-lt-suc 0))
    ∙ round_own binary64 (fin s (suc m) e) s (suc m * up e * 1) (down e * 1) (mul-pos (down_pos e) (zero-lt-suc 0)) F (refl, regroup (suc m * up e) (down e))
  where
    regroup : (a d : ℕ) → a * (d * 1) ≡ a * 1 * d
    regroup a d = ap (λ (z : ℕ). a * z) (mul-one d) ∙ ap (λ (z : ℕ). z * d) (sym (mul-one a))

zeros : (s : Bool) → (fin s 0 (pos 0) ⊕ zero+ ≡ fin s 0 (pos 0)) ⊎ (fin s 0 (pos 0) ≡ minus)
zeros true = inr refl
zeros false = inl (unfold add in refl)

own_or : (x : Float) → T (fits binary64 x) → (x ⊕ zero+ ≡ x) ⊎ (x ≡ minus)
own_or nan F = inl (unfold add in refl)
own_or (inf s) F = inl (unfold add in refl)
own_or (fin s zero e) F = subst (λ (z : ℤ). (fin s 0 z ⊕ zero+ ≡ fin s 0 z) ⊎ (fin s 0 z ≡ minus)) (sym (zero_exp binary64 s e F)) (zeros s)
own_or (fin s (suc m) e) F = inl (own_sum s m e F)

zero_is : bits 0 ≡ zero+
unfolding of_bits
zero_is = refl

plus_minus : minus ⊕ zero+ ≡ zero+
unfolding add
plus_minus = refl

minus_size : abs_of (minus ⊕ zero+) ≡ abs_of minus
unfolding abs_of add
minus_size = refl

plus_double : abs_of (zero+ ⊕ zero+) ≡ abs_of minus
unfolding abs_of add
plus_double = refl

minus_double : abs_of (minus ⊕ minus) ≡ abs_of minus
unfolding abs_of add
minus_double = refl

same_zero : zero+ ⊕ bits 0 ≡ minus ⊕ bits 0
unfolding add of_bits
same_zero = refl

zero_fits : (s : Bool) → T (fits binary64 (fin s 0 (pos 0)))
unfolding fits
zero_fits s = tt

minus_image : (len : Float) → T (fits binary64 len) → lt (abs_of minus) len ≡ true → short_axis len (minus ⊕ zero+) ≡ short_axis len minus
minus_image len F h =
    ap (short_axis len) plus_minus
    ∙ sym (inner_image len zero+ F (zero_fits false) (ap (λ (z : Float). lt z len) plus_double ∙ h))
    ∙ same_zero
    ∙ inner_image len minus F (zero_fits true) (ap (λ (z : Float). lt z len) minus_double ∙ h)

pub settled_size : (x : Float) → T (fits binary64 x) → abs_of (x ⊕ bits 0) ≡ abs_of x
settled_size x G =
    ap (λ (z : Float). abs_of (x ⊕ z)) zero_is
    ∙ ⊎_elim (λ (e : x ⊕ zero+ ≡ x). ap abs_of e) (λ (e : x ≡ minus). subst (λ (z : Float). abs_of (z ⊕ zero+) ≡ abs_of z) (sym e) minus_size) (own_or x G)

pub settled_image : (x : Float) → T (fits binary64 x) → (len : Float) → T (fits binary64 len) → lt (abs_of x) len ≡ true → short_axis len (x ⊕ bits 0) ≡ short_axis len x
settled_image x G len F h =
    ap (λ (z : Float). short_axis len (x ⊕ z)) zero_is
    ∙ ⊎_elim (λ (e : x ⊕ zero+ ≡ x). ap (short_axis len) e)
    (λ (e : x ≡ minus). subst (λ (z : Float). short_axis len (z ⊕ zero+) ≡ short_axis len z) (sym e) (minus_image len F (subst (λ (z : Float). lt (abs_of z) len ≡ true) e h)))
    (own_or x G)
