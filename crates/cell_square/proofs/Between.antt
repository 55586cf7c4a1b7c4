-- What lies between two differences that have one step has it too, of one place with many (`steady-law`) and of many with many (`shared-law`): by the
-- order, as `Keeps` has it. Assumes nothing.
use mathlib.Core.Path.{◌≡◌, refl, sym, ap, ◌∙◌, subst}
use mathlib.Core.Logic.{◌⊎◌, inl, inr}
use mathlib.Core.Bool.{Bool, true, false, not, cond, ◌&&◌, ◌||◌, false≢true}
use Prim.Native.Nat.{ℕ, zero, suc, ◌+◌, ◌*◌, ◌≤◌, ◌<◌}
use native.Mathlib.Nat.{zero-mul, mul_assoc, mul_right_comm, mul-pos, le_of_eq, le_trans, lt_of_le_of_lt, lt_of_lt_of_le, mul-le-mul_right, mul-lt-mul_of_pos_right, lt_of_mul-lt-mul_right}
use native.Mathlib.Omega.{arith}
use borrow.Author.Tests.{ltb-true, lt-ltb}
use lib.IntN.{ℤ}
use lib.Dec.{T}
use lib.Ieee.{Float, nan, inf, fin, binary64, up, down, neg, add, lt, le, fits, of_bits}
use lib.Ieee.Fits.{down_pos, sub-fits}
use lib.Ieee.Scale.{finite}
use lib.Ieee.Positive.{through}
use Rattle.float.specs.Def.{abs_of}
use Rattle.float.specs.Arith.{◌⊕◌, ◌⊖◌, bits}
use Rattle.float.proofs.Branches.{yes, both_true, sign_fits}
use Rattle.cell_axis.specs.Image.{shift_of}
use Rattle.cell_axis.proofs.Double.{double_below, double_reaches}
use Rattle.cell_axis.proofs.Twice.{twice}
use Rattle.cell_square.specs.Square.{square, smaller_of, in_half, steady_of, step_of, OneStep, SteadySays, SharedSteady, calm_of, CalmSays}
use Rattle.cell_square.proofs.Law.{picked, by_number, either_way}
use Rattle.cell_square.proofs.Keeps.{Before, before_self, before_of_le, le_of_before, le_through, sub_finite, between_finite, difference_amid, differences_amid}

-- ---- fractions: x / p ≤ y / q < z / r
fraction_below : (x p y q z r : ℕ) → 0 < p → x * q ≤ y * p → y * r < z * q → x * r < z * p
fraction_below x p y q z r P h k =
    lt_of_mul-lt-mul_right q
    (lt_of_le_of_lt (le_of_eq (mul_right_comm x r q))
    (lt_of_le_of_lt (mul-le-mul_right r h)
    (lt_of_le_of_lt (le_of_eq (mul_right_comm y p r))
    (lt_of_lt_of_le (mul-lt-mul_of_pos_right k P) (le_of_eq (mul_right_comm z q p))))))

twofold : (x q y p : ℕ) → x * q ≤ y * p → 2 * x * q ≤ 2 * y * p
twofold x q y p h = le_trans (le_of_eq (mul_assoc 2 x q)) (le_trans (both (x * q) (y * p) h) (le_of_eq (sym (mul_assoc 2 y p))))
  where
    both : (a b : ℕ) → a ≤ b → 2 * a ≤ 2 * b
    both a b h = omega arith

by_cases : {P : Type 0} (b : Bool) → (b ≡ true → P) → (b ≡ false → P) → P
by_cases true f g = f refl
by_cases false f g = g refl

-- ---- a length, and one number
module _ (n : ℕ) (d : ℤ) (F : T (fits binary64 (fin false (suc n) d))) where
  abbrev len : Float
  len = fin false (suc n) d

  module _ (s : Bool) (m : ℕ) (e : ℤ) (G : T (fits binary64 (fin s m e))) where
    abbrev x : Float
    x = fin s m e

    half_is : in_half len x ≡ lt (add binary64 (fin false m e) (fin false m e)) len
    unfolding abs_of
    half_is = ap (λ (z : Float). lt z len) (twice (fin s m e))

    in-half : in_half len x ≡ true → 2 * (m * up e) * down d < suc n * up d * down e
    in-half h = subst (λ (z : ℕ). z < suc n * up d * down e) (sym (mul_assoc 2 (m * up e) (down d))) (double_below binary64 m n e d F (sym half_is ∙ h))

    past_half : in_half len x ≡ false → suc n * up d * down e ≤ 2 * (m * up e) * down d
    past_half h = subst (λ (z : ℕ). suc n * up d * down e ≤ z) (sym (mul_assoc 2 (m * up e) (down d))) (double_reaches binary64 m n e d (sign_fits s m e G) F (sym half_is ∙ h))

    within_length : lt (abs_of x) len ≡ true → m * up e * down d < suc n * up d * down e
    unfolding abs_of lt
    within_length h = ltb-true (m * up e * down d) (suc n * up d * down e) h

    length_within : m * up e * down d < suc n * up d * down e → lt (abs_of x) len ≡ true
    unfolding abs_of lt
    length_within h = lt-ltb (m * up e * down d) (suc n * up d * down e) h

    no_step : 2 * (m * up e) * down d < suc n * up d * down e → shift_of (fin false m e) len x ≡ bits 0
    unfolding shift_of
    no_step h =
        by_cases (lt (add binary64 (fin false m e) (fin false m e)) len) (λ q. rw q)
        (λ q. absurd (clash (suc n * up d * down e) (2 * (m * up e) * down d) (past_half (half_is ∙ q)) h))
      where
        clash : (a b : ℕ) → a ≤ b → b < a → ⊥
        clash a b p q = omega arith

    a_step : m * up e * down d < suc n * up d * down e → suc n * up d * down e ≤ 2 * (m * up e) * down d → shift_of (fin false m e) len x ≡ fin (not s) (suc n) d
    unfolding shift_of of_bits
    a_step k h =
        by_cases (lt (add binary64 (fin false m e) (fin false m e)) len) (λ q. absurd (clash (suc n * up d * down e) (2 * (m * up e) * down d) h (in-half (half_is ∙ q))))
        (λ q. rw q (picked m n e d (sign_fits s m e G) F k s (subst (λ (z : ℕ). suc n * up d * down e ≤ z) (mul_assoc 2 (m * up e) (down d)) h)))
      where
        clash : (a b : ℕ) → a ≤ b → b < a → ⊥
        clash a b p q = omega arith

-- ---- three numbers in order
nearer : (s u v : Bool) (m i j : ℕ) (e f g : ℤ) → Before (fin u i f) (fin s m e) → Before (fin s m e) (fin v j g) → (m * up e * down f ≤ i * up f * down e) ⊎ (m * up e * down g ≤ j * up g * down e)
nearer true true v m i j e f g h k = inl (omega (arith, h.is))
nearer true false v m i j e f g h k = inl (omega (arith, h.is))
nearer false u true m i j e f g h k = inr (omega (arith, k.is))
nearer false u false m i j e f g h k = inr (omega (arith, k.is))

above_zero_is : (u : Bool) (i : ℕ) (f : ℤ) → lt (bits 0) (fin u i f) ≡ true → (u ≡ false) × (0 < i * up f)
unfolding lt of_bits
above_zero_is true i f h = absurd (false≢true h)
above_zero_is false i f h = (refl, more (i * up f) (down f) (ltb-true (0 * 1 * down f) (i * up f * 1) h))
  where
    more : (a c : ℕ) → 0 * 1 * c < a * 1 → 0 < a
    more a c h = omega arith

below_zero_is : (v : Bool) (j : ℕ) (g : ℤ) → lt (fin v j g) (bits 0) ≡ true → (v ≡ true) × (0 < j * up g)
unfolding lt of_bits
below_zero_is true j g h = (refl, more (j * up g) (down g) (ltb-true 0 (j * up g * 1 + 0 * 1 * down g) h))
  where
    more : (a c : ℕ) → 0 < a * 1 + 0 * 1 * c → 0 < a
    more a c h = omega arith
below_zero_is false j g h = absurd (none (j * up g) (down g) (ltb-true (j * up g * 1) (0 * 1 * down g) h))
  where
    none : (a c : ℕ) → a * 1 < 0 * 1 * c → ⊥
    none a c h = omega arith

after_positive : (s : Bool) (m i : ℕ) (e f : ℤ) → 0 < i * up f → Before (fin false i f) (fin s m e) → (s ≡ false) × (i * up f * down e ≤ m * up e * down f)
after_positive true m i e f p h = absurd (clash (i * up f * down e) (m * up e * down f) (mul-pos p (down_pos e)) (omega (arith, h.is)))
  where
    clash : (a b : ℕ) → 0 < a → a + b ≤ 0 → ⊥
    clash a b p q = omega arith
after_positive false m i e f p h = (refl, omega (arith, h.is))

before_negative : (s : Bool) (m j : ℕ) (e g : ℤ) → 0 < j * up g → Before (fin s m e) (fin true j g) → (s ≡ true) × (j * up g * down e ≤ m * up e * down g)
before_negative false m j e g p h = absurd (clash (j * up g * down e) (m * up e * down g) (mul-pos p (down_pos e)) (omega (arith, h.is)))
  where
    clash : (a b : ℕ) → 0 < a → b + a ≤ 0 → ⊥
    clash a b p q = omega arith
before_negative true m j e g p h = (refl, omega (arith, h.is))

own_square : (n : ℕ) (d : ℤ) → T (fits binary64 (fin false (suc n) d)) → (y : Float) → lt (fin false (suc n) d) y ≡ true → (s : Bool) (m : ℕ) (e : ℤ) → T (fits binary64 (fin s m e)) → lt (abs_of (fin s m e)) (fin false (suc n) d) ≡ true
    → square (smaller_of (fin false (suc n) d) (abs_of (fin s m e))) ≡ square (add binary64 (fin s m e) (shift_of (fin false m e) (fin false (suc n) d) (fin s m e)))
unfolding abs_of
own_square n d F y fine s m e G z = by_number (fin false (suc n) d) (fin s m e) y F G z fine

-- the step takes x to its image's square, and is the step of the short way
pub record Settled (len x step : Float) : Type 0 where
  pub short : lt (abs_of x) len ≡ true
  pub shift : shift_of (abs_of x) len x ≡ step
  pub image : square (x ⊕ step) ≡ square (smaller_of len (abs_of x))

-- ---- low ≤ x ≤ high, of one step
module _ (n : ℕ) (d : ℤ) (F : T (fits binary64 (fin false (suc n) d))) (y : Float) (fine : lt (fin false (suc n) d) y ≡ true)
    (s u v : Bool) (m i j : ℕ) (e f g : ℤ) (G : T (fits binary64 (fin s m e))) (U : T (fits binary64 (fin u i f))) (W : T (fits binary64 (fin v j g)))
    (h : Before (fin u i f) (fin s m e)) (k : Before (fin s m e) (fin v j g))
  where
    abbrev l : Float
    l = fin false (suc n) d

    inside : lt (abs_of (fin u i f)) l ≡ true → lt (abs_of (fin v j g)) l ≡ true → m * up e * down d < suc n * up d * down e
    inside p q =
        elim (nearer s u v m i j e f g h k) [
          | inl a ↦ fraction_below (m * up e) (down e) (i * up f) (down f) (suc n * up d) (down d) (down_pos e) a (within_length n d F u i f U p)
          | inr b ↦ fraction_below (m * up e) (down e) (j * up g) (down g) (suc n * up d) (down d) (down_pos e) b (within_length n d F v j g W q)
        ]

    middle : in_half l (fin u i f) ≡ true → in_half l (fin v j g) ≡ true → shift_of (fin false m e) l (fin s m e) ≡ bits 0
    middle p q =
        no_step n d F s m e G
        (elim (nearer s u v m i j e f g h k) [
          | inl a ↦ fraction_below (2 * (m * up e)) (down e) (2 * (i * up f)) (down f) (suc n * up d) (down d) (down_pos e) (twofold (m * up e) (down f) (i * up f) (down e) a) (in-half n d F u i f U p)
          | inr b ↦ fraction_below (2 * (m * up e)) (down e) (2 * (j * up g)) (down g) (suc n * up d) (down d) (down_pos e) (twofold (m * up e) (down g) (j * up g) (down e) b) (in-half n d F v j g W q)
        ])

    upper : m * up e * down d < suc n * up d * down e → in_half l (fin u i f) ≡ false → lt (bits 0) (fin u i f) ≡ true → shift_of (fin false m e) l (fin s m e) ≡ neg l
    unfolding neg
    upper w p q =
        let a = above_zero_is u i f q in
        let b = after_positive s m i e f a.1 (subst (λ (z : Bool). Before (fin z i f) (fin s m e)) a.0 h) in
        a_step n d F s m e G w
        (through (suc n * up d) (2 * (i * up f)) (2 * (m * up e)) (down d) (down f) (down e) (down_pos f) (past_half n d F u i f U p) (twofold (i * up f) (down e) (m * up e) (down f) b.1))
        ∙ ap (λ (z : Bool). fin (not z) (suc n) d) b.0

    lower : m * up e * down d < suc n * up d * down e → in_half l (fin v j g) ≡ false → lt (fin v j g) (bits 0) ≡ true → shift_of (fin false m e) l (fin s m e) ≡ l
    lower w p q =
        let a = below_zero_is v j g q in
        let b = before_negative s m j e g a.1 (subst (λ (z : Bool). Before (fin s m e) (fin z j g)) a.0 k) in
        a_step n d F s m e G w
        (through (suc n * up d) (2 * (j * up g)) (2 * (m * up e)) (down d) (down g) (down e) (down_pos g) (past_half n d F v j g W p) (twofold (j * up g) (down e) (m * up e) (down g) b.1))
        ∙ ap (λ (z : Bool). fin (not z) (suc n) d) b.0

    pick_step : (t o w p : Bool) → in_half l (fin u i f) ≡ t → in_half l (fin v j g) ≡ o → lt (bits 0) (fin u i f) ≡ w → lt (fin v j g) (bits 0) ≡ p → m * up e * down d < suc n * up d * down e
        → (((t && o) || (not t && w)) || (not o && p)) ≡ true → shift_of (fin false m e) l (fin s m e) ≡ cond (t && o) (bits 0) (cond (not t && w) (neg l) l)
    pick_step true true w p a b c r z q = middle a b
    pick_step true false w true a b c r z q = lower z b r
    pick_step true false w false a b c r z q = absurd (false≢true q)
    pick_step false o true p a b c r z q = upper z a c
    pick_step false true false p a b c r z q = absurd (false≢true q)
    pick_step false false false true a b c r z q = lower z b r
    pick_step false false false false a b c r z q = absurd (false≢true q)

    stepped : steady_of l (fin u i f) (fin v j g) ≡ true → Settled l (fin s m e) (step_of l (fin u i f) (fin v j g))
    unfolding steady_of step_of
    stepped q =
        let A = lt (bits 0) l in
        let B = lt (abs_of (fin u i f)) l in
        let C = lt (abs_of (fin v j g)) l in
        let t = in_half l (fin u i f) in
        let o = in_half l (fin v j g) in
        let c = lt (bits 0) (fin u i f) in
        let p = lt (fin v j g) (bits 0) in
        let q3 = both_true (A && B && C) (((t && o) || (not t && c)) || (not o && p)) q in
        let q2 = both_true (A && B) C q3.0 in
        let q1 = both_true A B q2.0 in
        let w = inside q1.1 q2.1 in
        let z = length_within n d F s m e G w in
        record {
          short = z;
          shift = unfold abs_of in pick_step t o c p refl refl refl refl w q3.1;
          image = ap (λ (o : Float). square (add binary64 (fin s m e) o)) (sym (pick_step t o c p refl refl refl refl w q3.1)) ∙ sym (own_square n d F y fine s m e G z);
        }

-- ---- any floats
pub small_finite : (x l : Float) → lt (abs_of x) l ≡ true → T (finite x)
unfolding abs_of lt
small_finite nan l h = absurd (false≢true h)
small_finite (inf s) nan h = absurd (false≢true h)
small_finite (inf s) (inf t) h = absurd (false≢true h)
small_finite (inf s) (fin t n d) h = absurd (false≢true h)
small_finite (fin s m e) l h = tt

by_floats : (l low x high y : Float) → T (fits binary64 l) → T (fits binary64 low) → T (fits binary64 x) → T (fits binary64 high) → lt l y ≡ true → lt (bits 0) l ≡ true
    → T (finite low) → T (finite x) → T (finite high) → Before low x → Before x high → steady_of l low high ≡ true → Settled l x (step_of l low high)
by_floats nan low x high y F U G W fine po a b c h k q = absurd (false≢true (unfold lt in fine))
by_floats (inf true) low x high y F U G W fine po a b c h k q = absurd (false≢true (unfold of_bits in unfold lt in po))
by_floats (inf false) low x high nan F U G W fine po a b c h k q = absurd (false≢true (unfold lt in fine))
by_floats (inf false) low x high (inf t) F U G W fine po a b c h k q = absurd (false≢true (unfold lt in fine))
by_floats (inf false) low x high (fin t r o) F U G W fine po a b c h k q = absurd (false≢true (unfold lt in fine))
by_floats (fin true n d) low x high y F U G W fine po a b c h k q = absurd (false≢true (unfold of_bits in unfold lt in po))
by_floats (fin false zero d) low x high y F U G W fine po a b c h k q = absurd (none (above_zero_is false zero d po).1)
  where
    none : 0 < 0 * up d → ⊥
    none h = omega (arith, h, zero-mul (up d))
by_floats (fin false (suc n) d) nan x high y F U G W fine po a b c h k q = absurd a
by_floats (fin false (suc n) d) (inf t) x high y F U G W fine po a b c h k q = absurd a
by_floats (fin false (suc n) d) (fin u i f) nan high y F U G W fine po a b c h k q = absurd b
by_floats (fin false (suc n) d) (fin u i f) (inf t) high y F U G W fine po a b c h k q = absurd b
by_floats (fin false (suc n) d) (fin u i f) (fin s m e) nan y F U G W fine po a b c h k q = absurd c
by_floats (fin false (suc n) d) (fin u i f) (fin s m e) (inf t) y F U G W fine po a b c h k q = absurd c
by_floats (fin false (suc n) d) (fin u i f) (fin s m e) (fin v j g) y F U G W fine po a b c h k q = stepped n d F y fine s u v m i j e f g G U W h k q

pub record Small (l u v : Float) : Type 0 where
  pub positive : lt (bits 0) l ≡ true
  pub low : lt (abs_of u) l ≡ true
  pub high : lt (abs_of v) l ≡ true

pub small_ends : (l low high : Float) → steady_of l low high ≡ true → Small l low high
unfolding steady_of
small_ends l low high q =
    let A = lt (bits 0) l in
    let B = lt (abs_of low) l in
    let C = lt (abs_of high) l in
    let t = in_half l low in
    let o = in_half l high in
    let q3 = both_true (A && B && C) (((t && o) || (not t && lt (bits 0) low)) || (not o && lt high (bits 0))) q in
    let q2 = both_true (A && B) C q3.0 in
    let q1 = both_true A B q2.0 in
    record { positive = q1.0; low = q1.1; high = q2.1 }

-- what lies between two numbers of one step has it
pub settled : (l low x high : Float) → T (fits binary64 l) → T (fits binary64 low) → T (fits binary64 x) → T (fits binary64 high) → lt l (inf false) ≡ true → T (le low x) → T (le x high)
    → steady_of l low high ≡ true → Settled l x (step_of l low high)
settled l low x high F U G W fine p q h =
    let w = small_ends l low high h in
    let a = small_finite low l w.low in
    let c = small_finite high l w.high in
    let b = between_finite low x high a c p q in
    by_floats l low x high (inf false) F U G W fine w.positive a b c (before_of_le low x a b p) (before_of_le x high b c q) h

-- ---- the differences of a and the places from lo up to hi: all are finite, and in order
pub record Ordered (a b lo hi : Float) : Type 0 where
  pub low : T (finite (a ⊖ hi))
  pub mid : T (finite (a ⊖ b))
  pub high : T (finite (a ⊖ lo))
  pub first : Before (a ⊖ hi) (a ⊖ b)
  pub second : Before (a ⊖ b) (a ⊖ lo)

ordered : (a b lo hi : Float) → T (finite (a ⊖ hi)) → T (finite (a ⊖ lo)) → le lo b ≡ true → le b hi ≡ true → Ordered a b lo hi
ordered a b lo hi x y p q =
    let d = difference_amid a b lo hi x y (yes p) (yes q) in
    let m = between_finite (a ⊖ hi) (a ⊖ b) (a ⊖ lo) x y d.low d.high in
    record { low = x; mid = m; high = y; first = before_of_le (a ⊖ hi) (a ⊖ b) x m d.low; second = before_of_le (a ⊖ b) (a ⊖ lo) m y d.high }

pub differences : (l a b lo hi : Float) → le lo b ≡ true → le b hi ≡ true → steady_of l (a ⊖ hi) (a ⊖ lo) ≡ true → Ordered a b lo hi
differences l a b lo hi p q h =
    let w = small_ends l (a ⊖ hi) (a ⊖ lo) h in
    ordered a b lo hi (small_finite (a ⊖ hi) l w.low) (small_finite (a ⊖ lo) l w.high) p q

pub steady_law : (l a b lo hi : Float) → T (fits binary64 l) → lt l (inf false) ≡ true → le lo b ≡ true → le b hi ≡ true → steady_of l (a ⊖ hi) (a ⊖ lo) ≡ true → OneStep l a b (step_of l (a ⊖ hi) (a ⊖ lo))
steady_law l a b lo hi F fine p q h =
    let w = differences l a b lo hi p q h in
    let v =
    by_floats l (a ⊖ hi) (a ⊖ b) (a ⊖ lo) (inf false) F (sub-fits binary64 a hi) (sub-fits binary64 a b) (sub-fits binary64 a lo) fine (small_ends l (a ⊖ hi) (a ⊖ lo) h).positive
    w.low w.mid w.high w.first w.second h in
    record { short = v.short; image = λ rising. v.image ∙ either_way l a b (inf false) F rising v.short fine }

pub steady_says : (l a lo hi : Float) (r : Bool) → T (fits binary64 l) → r ≡ steady_of l (a ⊖ hi) (a ⊖ lo) → SteadySays l a lo hi r
steady_says l a lo hi r F e = record { is = e; each = λ t fine b p q. steady_law l a b lo hi F fine p q (sym e ∙ t) }

-- ---- the differences of the places from c up to d and those from lo up to hi
module _ (l c a d lo b hi : Float) (p : le c a ≡ true) (q : le a d ≡ true) (r : le lo b ≡ true) (t : le b hi ≡ true) (h : steady_of l (c ⊖ hi) (d ⊖ lo) ≡ true) where
  end_low : T (finite (c ⊖ hi))
  end_low = small_finite (c ⊖ hi) l (small_ends l (c ⊖ hi) (d ⊖ lo) h).low

  end_high : T (finite (d ⊖ lo))
  end_high = small_finite (d ⊖ lo) l (small_ends l (c ⊖ hi) (d ⊖ lo) h).high

  -- those of a with both ends of the others
  pub shared_differences : Ordered a b lo hi
  shared_differences =
      let H = (sub_finite c hi end_low).1 in
      let L = (sub_finite d lo end_high).1 in
      let w = le_through lo b hi (yes r) (yes t) in
      let x = differences_amid c a d lo hi hi end_low end_high (yes p) (yes q) w (le_of_before hi hi H H (before_self hi)) in
      let y = differences_amid c a d lo lo hi end_low end_high (yes p) (yes q) (le_of_before lo lo L L (before_self lo)) w in
      ordered a b lo hi (between_finite (c ⊖ hi) (a ⊖ hi) (d ⊖ lo) end_low end_high x.low x.high) (between_finite (c ⊖ hi) (a ⊖ lo) (d ⊖ lo) end_low end_high y.low y.high) r t

  pub shared_law : T (fits binary64 l) → lt l (inf false) ≡ true → OneStep l a b (step_of l (c ⊖ hi) (d ⊖ lo))
  shared_law F fine =
      let m = differences_amid c a d lo b hi end_low end_high (yes p) (yes q) (yes r) (yes t) in
      let v = settled l (c ⊖ hi) (a ⊖ b) (d ⊖ lo) F (sub-fits binary64 c hi) (sub-fits binary64 a b) (sub-fits binary64 d lo) fine m.low m.high h in
      record { short = v.short; image = λ rising. v.image ∙ either_way l a b (inf false) F rising v.short fine }

pub shared_says : (l c d lo hi : Float) (r : Bool) → T (fits binary64 l) → r ≡ steady_of l (c ⊖ hi) (d ⊖ lo) → SharedSteady l c d lo hi r
shared_says l c d lo hi r F e = record { is = e; each = λ t fine a b p q u v. shared_law l c a d lo b hi p q u v (sym e ∙ t) F fine }

-- ---- all within a half
half_short : (l x : Float) → T (fits binary64 l) → T (fits binary64 x) → lt (bits 0) l ≡ true → lt l (inf false) ≡ true → in_half l x ≡ true → lt (abs_of x) l ≡ true
half_short nan x F G p k h = absurd (false≢true (unfold lt in k))
half_short (inf true) x F G p k h = absurd (false≢true (unfold of_bits in unfold lt in p))
half_short (inf false) x F G p k h = absurd (false≢true (unfold lt in k))
half_short (fin true n d) x F G p k h = absurd (false≢true (unfold of_bits in unfold lt in p))
half_short (fin false zero d) x F G p k h = absurd (none (above_zero_is false zero d p).1)
  where
    none : 0 < 0 * up d → ⊥
    none h = omega (arith, h, zero-mul (up d))
half_short (fin false (suc n) d) nan F G p k h = absurd (false≢true (unfold add in unfold abs_of in unfold lt in h))
half_short (fin false (suc n) d) (inf true) F G p k h = absurd (false≢true (unfold add in unfold abs_of in unfold lt in h))
half_short (fin false (suc n) d) (inf false) F G p k h = absurd (false≢true (unfold add in unfold abs_of in unfold lt in h))
half_short (fin false (suc n) d) (fin s m e) F G p k h = length_within n d F s m e G (less (m * up e * down d) (suc n * up d * down e) (subst (λ (z : ℕ). z < suc n * up d * down e) (mul_assoc 2 (m * up e) (down d)) (in-half n d F s m e G h)))
  where
    less : (a b : ℕ) → 2 * a < b → a < b
    less a b h = omega arith

record Calm (l u v : Float) : Type 0 where
  positive : lt (bits 0) l ≡ true
  low : in_half l u ≡ true
  high : in_half l v ≡ true

calm_is : (l u v : Float) → calm_of l u v ≡ true → Calm l u v
calm_is l u v h =
    let p = both_true (lt (bits 0) l && in_half l u) (in_half l v) h in
    let q = both_true (lt (bits 0) l) (in_half l u) p.0 in
    record { positive = q.0; low = q.1; high = p.1 }

calm_steady : (l u v : Float) → Calm l u v → lt (abs_of u) l ≡ true → lt (abs_of v) l ≡ true → true ≡ steady_of l u v
unfolding steady_of
calm_steady l u v c p q = sym (rw (c.positive, p, q, c.low, c.high))

calm_step : (l u v : Float) → Calm l u v → step_of l u v ≡ bits 0
unfolding step_of
calm_step l u v c = rw (c.low, c.high)

pub calm_nothing : (l u v : Float) → calm_of l u v ≡ true → step_of l u v ≡ bits 0
calm_nothing l u v h = calm_step l u v (calm_is l u v h)

-- so it has one step, which is nothing
pub record Calmed (l u v : Float) : Type 0 where
  pub steady : true ≡ steady_of l u v
  pub step : step_of l u v ≡ bits 0

pub calmed : (l u v : Float) → T (fits binary64 l) → T (fits binary64 u) → T (fits binary64 v) → lt l (inf false) ≡ true → calm_of l u v ≡ true → Calmed l u v
calmed l u v F U W fine h =
    let c = calm_is l u v h in
    record { steady = calm_steady l u v c (half_short l u F U c.positive fine c.low) (half_short l v F W c.positive fine c.high); step = calm_step l u v c }

pub calm_says : (l a lo hi : Float) (r : Bool) → T (fits binary64 l) → r ≡ calm_of l (a ⊖ hi) (a ⊖ lo) → CalmSays l a lo hi r
calm_says l a lo hi r F e =
    record {
      is = e;
      steady = λ t fine. steady_says l a lo hi true F (calmed l (a ⊖ hi) (a ⊖ lo) F (sub-fits binary64 a hi) (sub-fits binary64 a lo) fine (sym e ∙ t)).steady;
      step = λ t. calm_nothing l (a ⊖ hi) (a ⊖ lo) (sym e ∙ t);
    }
