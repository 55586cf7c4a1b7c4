-- The fields of the bits of a finite f64 above zero, and the root by them; and the other cases of `root`. Assumes nothing.
use Rattle.std.proofs.Common.{◌≡◌, ℕ, zero, suc, ◌+◌, ◌-◌, ◌*◌, ◌/◌, ◌%◌, ◌^◌, ◌<◌, ◌≤◌, Bool, true, false, cond, not, ◌&&◌, ◌||◌, T, eqb, leb, ◌⊎◌, ℤ, pos, negsuc, sym, refl, ap, ◌∙◌, subst, ap₂, inl, inr, true≢false, le_of_eq, lt_of_lt_of_le, lt_irrefl, mod-lt, zero-lt-suc, mul_assoc, eq-zero-or-pos, mul-lt-mul_of_pos_right, mul-pos, zero-add, zero-mul, mul-one, mul_right_comm, mul-div_cancel, arith, eqb→eq, ltb→lt, lt→ltb, pow_pos, pow-add}
use mathlib.Core.Bool.{beq, false≢true}
use lib.Dec.{eqb-suc-zero, not_T}
use lib.Pow.{field}
use lib.Ieee.{Float, nan, inf, fin, binary64, up, down, odd, sub, lt, eq, fits, is_nan, to_bits, of_fields}
use lib.Ieee.Bits.{of_bits-to_bits, is_false}
use lib.Ieee.Fits.{down_pos, up_pos}
use lib.Ieee.Exact.{HasValue, odd_sign}
use lib.Ieee.Positive.{positive}
use Rattle.float.specs.Def.{root_scaled, root_of}
use Rattle.float.specs.Steps.{EvenOf, RootBits}
use Rattle.float.proofs.Normal.{Norm, shift_is, shift_within, rescaled}
use Rattle.float.proofs.Fraction.{lt_at}
use Rattle.float.proofs.Branches.{zero+, both_true, yes, no, zero_left}
use Rattle.float.proofs.Patterns.{of_bits_is, normal_is}

-- ---- a value's fields
abbrev pub field_of : ℕ → ℕ
field_of b = b / 2 ^ 52 % 2048

abbrev pub digits_of : ℕ → ℕ
digits_of b = b % 2 ^ 52

fields_are : (x : Float) → T (fits binary64 x) → of_fields binary64 (leb (2 ^ 63) (to_bits binary64 x)) (field_of (to_bits binary64 x)) (digits_of (to_bits binary64 x)) ≡ x
fields_are x p =
    let b = to_bits binary64 x in
    ap (λ (z : ℕ). of_fields binary64 (leb (2 ^ 63) b) z (b % 2 ^ 52)) (sym (field b 11 52)) ∙ sym (of_bits_is b) ∙ of_bits-to_bits binary64 x p

pub low_is : (s : Bool) (t : ℕ) → of_fields binary64 s 0 t ≡ odd 53 s t 0 1074
unfolding of_fields
low_is s t = refl

-- the highest field: an infinity, or a nan
top_not_positive : (s : Bool) (t : ℕ) → T (positive (of_fields binary64 s 2047 t)) → ⊥
unfolding of_fields
top_not_positive s t h = go (eqb t 0) h
  where
    go : (b : Bool) → T (positive (cond b (inf s) nan)) → ⊥
    go true h = h
    go false h = h

-- ---- the root, by a fraction of units that x equals
value_pos : (x : Float) (s : Bool) (a c : ℕ) → T (positive x) → 0 < c → HasValue x s a c → 0 < a
value_pos nan s a c p C v = absurd p
value_pos (inf t) s a c p C v = absurd p
value_pos (fin true m e) s a c p C v = absurd p
value_pos (fin false m e) s a c p C v = go a v.1
  where
    go : (a : ℕ) → m * up e * c ≡ a * down e → 0 < a
    go zero h = absurd (lt_irrefl 0 (subst (λ (z : ℕ). 0 < z) (h ∙ zero-mul (down e)) (mul-pos (mul-pos (ltb→lt 0 m p) (up_pos e)) C)))
    go (suc a) h = zero-lt-suc a

not_zero : (m : ℕ) → 0 < m → eqb m 0 ≡ false
not_zero m h = is_false (eqb m 0) (not_T (eqb m 0) (λ t. never m h (eqb→eq m 0 t)))
  where
    never : (m : ℕ) → 0 < m → m ≡ 0 → ⊥
    never m h e = omega arith

pub root_fin : (m : ℕ) (e : ℤ) → 0 < m → root_of (fin false m e) ≡ root_scaled (m * up e * 4 ^ 600 / down e)
unfolding root_of
root_fin m e h = rw (not_zero m h)

pub scaled_whole : (y d a q : ℕ) → 0 < d → y * 2 ^ 1074 ≡ a * 2 ^ q * d → y * 4 ^ 600 / d ≡ a * 2 ^ (q + 126)
scaled_whole y d a q D h =
    ap (λ (z : ℕ). z / d)
    (sym (mul_assoc y (2 ^ 1074) (2 ^ 126)) ∙ ap (λ (z : ℕ). z * 2 ^ 126) h ∙ mul_right_comm (a * 2 ^ q) d (2 ^ 126) ∙ ap (λ (z : ℕ). z * d) (mul_assoc a (2 ^ q) (2 ^ 126) ∙ ap (λ (z : ℕ). a * z) (sym (pow-add 2 q 126))))
    ∙ mul-div_cancel (a * 2 ^ (q + 126)) D

pub root_by_value : (x : Float) (s : Bool) (a q : ℕ) → T (positive x) → HasValue x s (a * 2 ^ q) (2 ^ 1074) → root_scaled (a * 2 ^ (q + 126)) ≡ root_of x
root_by_value nan s a q p v = absurd p
root_by_value (inf t) s a q p v = absurd p
root_by_value (fin true m e) s a q p v = absurd p
root_by_value (fin false m e) s a q p v = sym (root_fin m e (ltb→lt 0 m p) ∙ ap root_scaled (scaled_whole (m * up e) (down e) a q (down_pos e) v.1))

-- ---- by its bits
module _ (x : Float) (p : T (positive x)) (g : T (fits binary64 x)) where
  abbrev pub bits : ℕ
  bits = to_bits binary64 x

  pub low_val : field_of bits ≡ 0 → HasValue x (leb (2 ^ 63) bits) (digits_of bits * 2 ^ 0) (2 ^ 1074)
  low_val h =
      subst (λ (z : Float). HasValue z (leb (2 ^ 63) bits) (digits_of bits * 2 ^ 0) (2 ^ 1074))
      (sym (ap (λ (z : ℕ). of_fields binary64 (leb (2 ^ 63) bits) z (digits_of bits)) h ∙ low_is (leb (2 ^ 63) bits) (digits_of bits)) ∙ fields_are x g)
      (odd_sign 53 (leb (2 ^ 63) bits) (digits_of bits) 0 1074)

  pub low_pos : field_of bits ≡ 0 → 0 < digits_of bits
  low_pos h = subst (λ (z : ℕ). 0 < z) (mul-one (digits_of bits)) (value_pos x (leb (2 ^ 63) bits) (digits_of bits * 2 ^ 0) (2 ^ 1074) p (pow_pos 1074) (low_val h))

  pub low_root : field_of bits ≡ 0 → root_scaled (digits_of bits * 2 ^ (0 + 126)) ≡ root_of x
  low_root h = root_by_value x (leb (2 ^ 63) bits) (digits_of bits) 0 p (low_val h)

  field_not_top : field_of bits ≡ 2047 → ⊥
  field_not_top h =
      top_not_positive (leb (2 ^ 63) bits) (digits_of bits) (subst (λ (z : Float). T (positive z)) (sym (sym (ap (λ (z : ℕ). of_fields binary64 (leb (2 ^ 63) bits) z (digits_of bits)) h) ∙ fields_are x g)) p)

  pub field_lt : field_of bits < 2047
  field_lt = below (field_of bits) (mod-lt (bits / 2 ^ 52) (zero-lt-suc 2047)) field_not_top
    where
      below : (f : ℕ) → f < 2048 → (f ≡ 2047 → ⊥) → f < 2047
      below f h k = omega arith

  pub high_val : (k : ℕ) → field_of bits ≡ suc k → suc k < 2047 → HasValue x (leb (2 ^ 63) bits) ((2 ^ 52 + digits_of bits) * 2 ^ k) (2 ^ 1074)
  high_val k h l =
      subst (λ (z : Float). HasValue z (leb (2 ^ 63) bits) ((2 ^ 52 + digits_of bits) * 2 ^ k) (2 ^ 1074))
      (sym (ap (λ (z : ℕ). of_fields binary64 (leb (2 ^ 63) bits) z (digits_of bits)) h ∙ normal_is (leb (2 ^ 63) bits) k (digits_of bits) l) ∙ fields_are x g)
      (odd_sign 53 (leb (2 ^ 63) bits) (2 ^ 52 + digits_of bits) k 1074)

  pub high_root : (field_of bits ≡ 0 → ⊥) → root_scaled ((digits_of bits + 2 ^ 52) * 2 ^ (field_of bits - 1 + 126)) ≡ root_of x
  high_root h =
      ap (λ (z : ℕ). root_scaled (z * 2 ^ (field_of bits - 1 + 126))) (swap (digits_of bits))
      ∙ root_by_value x (leb (2 ^ 63) bits) (2 ^ 52 + digits_of bits) (field_of bits - 1) p (high_val (field_of bits - 1) (one_less (field_of bits) h) (subst (λ (z : ℕ). z < 2047) (one_less (field_of bits) h) field_lt))
    where
      swap : (t : ℕ) → t + 2 ^ 52 ≡ 2 ^ 52 + t
      swap t = omega arith

      one_less : (f : ℕ) → (f ≡ 0 → ⊥) → f ≡ suc (f - 1)
      one_less f h = omega arith

-- the leading digit: 0 where the field is 0, else 1
unfoldable pub Lead : ℕ → ℕ → Type 0
Lead f l = ((f ≡ 0) × (l ≡ 0)) ⊎ ((f ≡ 0 → ⊥) × (l ≡ 1))

pub lead_of : (f l : ℕ) → l ≡ cond (eqb f 0) 0 1 → Lead f l
unfolding Lead
lead_of zero l e = inl (refl, e)
lead_of (suc f) l e = inr (λ (z : suc f ≡ 0). never f z, e ∙ ap (λ (t : Bool). cond {A = ℕ} t 0 1) (eqb-suc-zero f))
  where
    never : (f : ℕ) → suc f ≡ 0 → ⊥
    never f z = omega arith

pub lead_le : (f l : ℕ) → Lead f l → (l ≤ 1) × (l ≤ f)
unfolding Lead
lead_le f l (inl z) = (omega arith, omega arith)
lead_le f l (inr z) = (omega arith, one f l z.0 z.1)
  where
    one : (f l : ℕ) → (f ≡ 0 → ⊥) → l ≡ 1 → l ≤ f
    one f l n e = omega arith

module _ (x : Float) (p : T (positive x)) (g : T (fits binary64 x)) (l : ℕ) (L : Lead (field_of (bits x p g)) l) where
  pub lead_in : (0 < digits_of (bits x p g) + l * 2 ^ 52) × (digits_of (bits x p g) + l * 2 ^ 52 < 2 ^ 53) × (field_of (bits x p g) - l < 2046)
  unfolding Lead
  lead_in = elim L [
    | inl z ↦ (low (digits_of (bits x p g)) l (low_pos x p g z.0), small (digits_of (bits x p g)) l (mod-lt (bits x p g) (pow_pos 52)) z.1, first (field_of (bits x p g)) l z.0)
    | inr z ↦ (high (digits_of (bits x p g)) l z.1, small' (digits_of (bits x p g)) l (mod-lt (bits x p g) (pow_pos 52)) z.1, later (field_of (bits x p g)) l z.0 z.1 (field_lt x p g))
  ]
    where
      low : (t l : ℕ) → 0 < t → 0 < t + l * 2 ^ 52
      low t l h = omega arith

      high : (t l : ℕ) → l ≡ 1 → 0 < t + l * 2 ^ 52
      high t l h = omega arith

      small : (t l : ℕ) → t < 2 ^ 52 → l ≡ 0 → t + l * 2 ^ 52 < 2 ^ 53
      small t l h e = omega arith

      small' : (t l : ℕ) → t < 2 ^ 52 → l ≡ 1 → t + l * 2 ^ 52 < 2 ^ 53
      small' t l h e = omega arith

      first : (f l : ℕ) → f ≡ 0 → f - l < 2046
      first f l e = omega arith

      later : (f l : ℕ) → (f ≡ 0 → ⊥) → l ≡ 1 → f < 2047 → f - l < 2046
      later f l n e h = omega arith

  pub lead_root : root_scaled ((digits_of (bits x p g) + l * 2 ^ 52) * 2 ^ (field_of (bits x p g) - l + 126)) ≡ root_of x
  unfolding Lead
  lead_root = elim L [
    | inl z ↦ ap root_scaled (cc (plain (digits_of (bits x p g)) l z.1, least (field_of (bits x p g)) l z.0)) ∙ low_root x p g z.0
    | inr z ↦ ap (λ (k : ℕ). root_scaled ((digits_of (bits x p g) + k * 2 ^ 52) * 2 ^ (field_of (bits x p g) - k + 126))) z.1 ∙ high_root x p g z.0
  ]
    where
      plain : (t l : ℕ) → l ≡ 0 → t + l * 2 ^ 52 ≡ t
      plain t l e = omega arith

      least : (f l : ℕ) → f ≡ 0 → f - l + 126 ≡ 0 + 126
      least f l e = omega arith

-- x is a * 2 ^ q of the format's smallest values
pub units_of : (x : Float) → T (positive x) → T (fits binary64 x) → (s : Bool) × (a : ℕ) × (q : ℕ) × HasValue x s (a * 2 ^ q) (2 ^ 1074) × (0 < a) × (a < 2 ^ 53) × (q < 2046)
units_of x p g = elim (eq-zero-or-pos (field_of (to_bits binary64 x))) [
  | inl z ↦ (leb (2 ^ 63) (to_bits binary64 x), digits_of (to_bits binary64 x), 0, low_val x p g z, low_pos x p g z, small (digits_of (to_bits binary64 x)) (mod-lt (to_bits binary64 x) (pow_pos 52)), zero-lt-suc 2045)
  | inr l ↦
      let f = field_of (to_bits binary64 x) in
      let e : f ≡ suc (f - 1) = one_less f l in
      (leb (2 ^ 63) (to_bits binary64 x), 2 ^ 52 + digits_of (to_bits binary64 x), f - 1, high_val x p g (f - 1) e (subst (λ (z : ℕ). z < 2047) e (field_lt x p g)), lead (digits_of (to_bits binary64 x)), normal (digits_of (to_bits binary64 x)) (mod-lt (to_bits binary64 x) (pow_pos 52)), under f (field_lt x p g) l)
]
  where
    small : (t : ℕ) → t < 2 ^ 52 → t < 2 ^ 53
    small t h = omega arith

    normal : (t : ℕ) → t < 2 ^ 52 → 2 ^ 52 + t < 2 ^ 53
    normal t h = omega arith

    lead : (t : ℕ) → 0 < 2 ^ 52 + t
    lead t = omega arith

    one_less : (f : ℕ) → 0 < f → f ≡ suc (f - 1)
    one_less f h = omega arith

    under : (f : ℕ) → f < 2047 → 0 < f → f - 1 < 2046
    under f h k = omega arith

-- ---- a number with its leading digit: above 2 ^ -1022
abbrev pub least : Float
least = fin false 1 (negsuc 1021)

pub normal_positive : (x : Float) → lt least x ≡ true → lt x (inf false) ≡ true → T (positive x)
unfolding lt
normal_positive nan h k = absurd (false≢true h)
normal_positive (inf true) h k = absurd (false≢true h)
normal_positive (inf false) h k = absurd (false≢true k)
normal_positive (fin true m e) h k = absurd (false≢true h)
normal_positive (fin false m e) h k = lt→ltb 0 m (go m (up e * 2 ^ 1022) (1 * 1 * down e) (subst (λ (z : ℕ). 1 * 1 * down e < z) (mul_assoc m (up e) (2 ^ 1022)) (ltb→lt (1 * 1 * down e) (m * up e * 2 ^ 1022) (yes h))))
  where
    go : (m u a : ℕ) → a < m * u → 0 < m
    go zero u a h = absurd (none a (0 * u) h (zero-mul u))
      where
        none : (a b : ℕ) → a < b → b ≡ 0 → ⊥
        none a b h k = omega arith
    go (suc m) u a h = zero-lt-suc m

sign_false : (x : Float) (s : Bool) (a c : ℕ) → T (positive x) → HasValue x s a c → HasValue x false a c
sign_false nan s a c p v = absurd p
sign_false (inf t) s a c p v = absurd p
sign_false (fin true m e) s a c p v = absurd p
sign_false (fin false m e) s a c p v = (refl, v.1)

module _ (x : Float) (p : T (positive x)) (g : T (fits binary64 x)) where
  pub normal_field : lt least x ≡ true → 0 < field_of (bits x p g)
  normal_field h = elim (eq-zero-or-pos (field_of (bits x p g))) [
    | inl z ↦ absurd (never z)
    | inr l ↦ l
  ]
    where
      small : digits_of (bits x p g) * 2 ^ 0 * 2 ^ 1022 < 1 * 2 ^ 1074
      small = lt_of_lt_of_le (mul-lt-mul_of_pos_right (subst (λ (z : ℕ). z < 2 ^ 52) (sym (mul-one (digits_of (bits x p g)))) (mod-lt (bits x p g) (pow_pos 52))) (pow_pos 1022)) (le_of_eq refl)

      none : (a b : ℕ) → a < b → b < a → ⊥
      none a b h k = omega arith

      never : field_of (bits x p g) ≡ 0 → ⊥
      never z =
          none (1 * 2 ^ 1074) (digits_of (bits x p g) * 2 ^ 0 * 2 ^ 1022)
          (ltb→lt (1 * 2 ^ 1074) (digits_of (bits x p g) * 2 ^ 0 * 2 ^ 1022)
          (yes (sym (lt_at least x 1 (2 ^ 1022) (digits_of (bits x p g) * 2 ^ 0) (2 ^ 1074) (pow_pos 1022) (pow_pos 1074) (refl, refl) (sign_false x (leb (2 ^ 63) (bits x p g)) (digits_of (bits x p g) * 2 ^ 0) (2 ^ 1074) p (low_val x p g z))) ∙ h)))
          small

  pub normal_even : 0 < field_of (bits x p g) → {v h : ℕ} → v ≡ ((digits_of (bits x p g) + 2 ^ 52) * 2 ^ ((field_of (bits x p g) + 1021) % 2)) % 2 ^ 64 → h ≡ (field_of (bits x p g) + 1021) / 2 - 484 → EvenOf x v h
  normal_even l {v} {h} ev eh =
      let m = digits_of (bits x p g) + 2 ^ 52 in
      let f = field_of (bits x p g) in
      let d = (f + 1021) % 2 in
      let n = norm (digits_of (bits x p g)) (mod-lt (bits x p g) (pow_pos 52)) in
      let two = mod-lt (f + 1021) (zero-lt-suc 1) in
      let whole : (m * 2 ^ d) % 2 ^ 64 ≡ m * 2 ^ d = subst (λ (k : ℕ). (m * 2 ^ k) % 2 ^ 64 ≡ m * 2 ^ k) (zero-add d) (shift_is m 0 d n two) in
      let within : (2 ^ 52 ≤ (m * 2 ^ d) % 2 ^ 64) × ((m * 2 ^ d) % 2 ^ 64 < 2 ^ 54) =
      subst (λ (k : ℕ). (2 ^ 52 ≤ (m * 2 ^ k) % 2 ^ 64) × ((m * 2 ^ k) % 2 ^ 64 < 2 ^ 54)) (zero-add d) (shift_within m 0 d n two) in
      record {
        low = subst (λ (z : ℕ). 2 ^ 52 ≤ z) (sym ev) within.0;
        high = subst (λ (z : ℕ). z < 2 ^ 54) (sym ev) within.1;
        few = subst (λ (z : ℕ). z ≤ 1049) (sym eh) (few f (field_lt x p g));
        same =
            ap root_scaled (ap₂ (λ (a b : ℕ). a * 4 ^ (b + 36)) (ev ∙ whole) eh ∙ rescaled m d ((f + 1021) / 2 - 484) (f - 1) (sums f l))
            ∙ high_root x p g (λ z. some f l z);
      }
    where
      norm : (t : ℕ) → t < 2 ^ 52 → Norm (t + 2 ^ 52) 0
      norm t h = record { low = omega arith; high = omega arith; shift = omega arith }

      few : (f : ℕ) → f < 2047 → (f + 1021) / 2 - 484 ≤ 1049
      few f h = omega arith

      sums : (f : ℕ) → 0 < f → (f + 1021) % 2 + 2 * ((f + 1021) / 2 - 484) ≡ f - 1 + 54
      sums f h = omega arith

      some : (f : ℕ) → 0 < f → f ≡ 0 → ⊥
      some f h e = omega arith

finite_apart : (x y : Float) → lt least x ≡ true → lt (sub binary64 x y) (inf false) ≡ true → (lt x (inf false) ≡ true) × T (not (is_nan y))
unfolding lt sub is_nan
finite_apart nan y h k = absurd (false≢true h)
finite_apart (inf true) y h k = absurd (false≢true h)
finite_apart (inf false) nan h k = absurd (false≢true k)
finite_apart (inf false) (inf true) h k = absurd (false≢true k)
finite_apart (inf false) (inf false) h k = absurd (false≢true k)
finite_apart (inf false) (fin t n d) h k = absurd (false≢true k)
finite_apart (fin s m e) nan h k = absurd (false≢true k)
finite_apart (fin s m e) (inf t) h k = (refl, tt)
finite_apart (fin s m e) (fin t n d) h k = (refl, tt)

pub normal_told : (x y : Float) → T (fits binary64 x) → lt least x && lt (sub binary64 x y) (inf false) ≡ true → (T (positive x) × (0 < field_of (to_bits binary64 x))) × T (not (is_nan y))
normal_told x y g h =
    let both = both_true (lt least x) (lt (sub binary64 x y) (inf false)) h in
    let ends = finite_apart x y both.0 both.1 in
    let p = normal_positive x both.0 ends.0 in
    ((p, normal_field x p g both.0), ends.1)

-- ---- bits, or 0
pub no_bits : (y : Float) → RootBits y 0
no_bits y = record { few = omega arith; right = λ h. absurd (omega arith) }

-- ---- the other cases
pub positive_of : (x : Float) → lt zero+ x ≡ true → lt x (inf false) ≡ true → T (positive x)
unfolding lt
positive_of nan h k = absurd (false≢true h)
positive_of (inf true) h k = absurd (false≢true h)
positive_of (inf false) h k = absurd (false≢true k)
positive_of (fin true m e) h k = absurd (false≢true h)
positive_of (fin false m e) h k = lt→ltb 0 m (pos_of m (ltb→lt (0 * 1 * down e) (m * up e * 1) (yes h)))
  where
    none : (a b : ℕ) → a < b → b ≡ 0 → ⊥
    none a b h k = omega arith

    pos_of : (m : ℕ) → 0 * 1 * down e < m * up e * 1 → 0 < m
    pos_of zero h = absurd (none (0 * 1 * down e) (0 * up e * 1) h (ap (λ (z : ℕ). z * 1) (zero-mul (up e)) ∙ zero-mul 1))
    pos_of (suc m) h = zero-lt-suc m

pub positive_no_nan : (x : Float) → T (positive x) → T (not (is_nan x))
unfolding is_nan
positive_no_nan nan p = absurd p
positive_no_nan (inf s) p = absurd p
positive_no_nan (fin s m e) p = tt

pub root_inf : (x : Float) → lt zero+ x ≡ true → lt x (inf false) ≡ false → x ≡ root_of x
unfolding lt root_of
root_inf nan h k = absurd (false≢true h)
root_inf (inf true) h k = absurd (false≢true h)
root_inf (inf false) h k = refl
root_inf (fin s m e) h k = absurd (true≢false k)

zero_root : (s : Bool) → fin s 0 (pos 0) ≡ root_of (fin s 0 (pos 0))
unfolding root_of
zero_root s = refl

pub root_zero : (x : Float) → T (fits binary64 x) → eq x zero+ ≡ true → x ≡ root_of x
root_zero x p h = let z = zero_left x false p (yes h) in subst (λ (y : Float). y ≡ root_of y) (sym z.1) (zero_root z.0)

zero_no : (s : Bool) (e : ℤ) → eq (fin s 0 e) zero+ ≡ false → ⊥
unfolding eq
zero_no s e h =
    let a : 0 * up e * 1 ≡ 0 = ap (λ (y : ℕ). y * 1) (zero-mul (up e)) ∙ zero-mul 1 in
    let b : 0 * 1 * down e ≡ 0 = zero-mul (down e) in
    no h (subst (λ (y : ℕ). T (eqb y (0 * 1 * down e) && (beq s false || eqb y 0))) (sym a) (subst (λ (y : ℕ). T (eqb 0 y && (beq s false || eqb 0 0))) (sym b) (either (beq s false))))
  where
    either : (b : Bool) → T (eqb 0 0 && (b || eqb 0 0))
    either true = tt
    either false = tt

pos_no : (m : ℕ) (e : ℤ) → lt zero+ (fin false (suc m) e) ≡ false → ⊥
unfolding lt
pos_no m e h =
    no h (lt→ltb (0 * 1 * down e) (suc m * up e * 1) (subst (λ (z : ℕ). z < suc m * up e * 1) (sym (zero-mul (down e))) (mul-pos (mul-pos (zero-lt-suc m) (up_pos e)) (zero-lt-suc 0))))

pub root_else : (x : Float) → T (fits binary64 x) → lt zero+ x ≡ false → eq x zero+ ≡ false → nan ≡ root_of x
unfolding root_of
root_else nan p h k = refl
root_else (inf true) p h k = refl
root_else (inf false) p h k = absurd (unfold lt in true≢false h)
root_else (fin true zero e) p h k = absurd (zero_no true e k)
root_else (fin true (suc m) e) p h k = sym (rw (not_zero (suc m) (zero-lt-suc m)))
root_else (fin false zero e) p h k = absurd (zero_no false e k)
root_else (fin false (suc m) e) p h k = absurd (pos_no m e h)
