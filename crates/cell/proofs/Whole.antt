-- A number that fits: `as i32` is `as i64`, and brought back to a float it is the number that was rounded. Assumes nothing.
use mathlib.Core.Path.{◌≡◌, refl, sym, ap, ◌∙◌, subst}
use Prim.Native.Nat.{ℕ, zero, suc, ◌+◌, ◌-◌, ◌*◌, ◌/◌, ◌^◌, ◌≤◌, ◌<◌, min}
use native.Mathlib.Nat.{mul-one, suc-mul, div-lt_iff_lt-mul, mul-div_cancel}
use native.Mathlib.Omega.{arith}
use mathlib.Core.Bool.{Bool, true, false, cond, ◌&&◌, ◌||◌, false≢true}
use lib.IntN.{ℤ, pos, neg_ℤ}
use lib.Dec.{T, ltb, eqb, ltb→lt, eqb→eq}
use lib.Ieee.{Float, nan, inf, fin, up, down, neg, lt, le, eq, to_signed, round, binary64, of_int, of_bits, fits}
use lib.Ieee.Exact.{HasValue}
use lib.Ieee.Fits.{down_pos}
use lib.Ieee.Casts.{to_signed_in}
use mir.Syntax.{w32, w64}
use mir.Val.{SFits, to_z, of_z}
use mir.ValLaws.{to_z-of_z}
use Rattle.float.proofs.Branches.{yes, both_true}
use Rattle.float.proofs.Whole.{nearest_exact}
use Rattle.float.specs.Def.{round_of, whole_of, negative}
use Rattle.cell.specs.Boxes.{past_whole, fits_of, counted_of}
use Rattle.cell.specs.Unfolded.{float_of}
use Rattle.std.specs.Prelude.{Result, Ok, Err}

-- ---- the whole part of a number that fits is in the range
-- a / d, compared as a * 1 against 2^31 * d
at_most : (a d : ℕ) → 0 < d → a ≤ 2 ^ 31 * d → a / d ≤ 2 ^ 31
at_most a d D h = drop (a / d) (2 ^ 31) ((div-lt_iff_lt-mul D).1 (over a (2 ^ 31 * d) (suc (2 ^ 31) * d) d D (suc-mul (2 ^ 31) d) h))
  where
    drop : (q k : ℕ) → q < suc k → q ≤ k
    drop q k g = omega arith

    over : (a b c d : ℕ) → 0 < d → c ≡ b + d → a ≤ b → a < c
    over a b c d D e g = omega arith

below : (a d : ℕ) → 0 < d → a < 2 ^ 31 * d → a / d < 2 ^ 31
below a d D h = (div-lt_iff_lt-mul D).1 h

from_le : (a b : ℕ) (k : Bool) → (ltb (a * 1) b || (eqb b (a * 1) && k)) ≡ true → a ≤ b
from_le a b k h = go (ltb (a * 1) b) (ltb→lt (a * 1) b) h
  where
    less : (a b : ℕ) → a * 1 < b → a ≤ b
    less a b g = omega arith

    same : (a b : ℕ) → b ≡ a * 1 → a ≤ b
    same a b g = omega arith

    go : (t : Bool) → (T t → a * 1 < b) → (t || (eqb b (a * 1) && k)) ≡ true → a ≤ b
    go true f g = less a b (f tt)
    go false f g = same a b (eqb→eq b (a * 1) (yes (both_true (eqb b (a * 1)) k g).0))

from_lt : (a b : ℕ) → ltb (a * 1) b ≡ true → a < b
from_lt a b h = less a b (ltb→lt (a * 1) b (yes h))
  where
    less : (a b : ℕ) → a * 1 < b → a < b
    less a b g = omega arith

low_part : (m : ℕ) (e : ℤ) → fits_of (fin true m e) ≡ true → m * up e / down e ≤ 2 ^ 31
unfolding fits_of lt le eq neg of_bits
low_part m e h = at_most (m * up e) (down e) (down_pos e) (from_le (m * up e) (2 ^ 31 * down e) true (both_true (le (neg past_whole) (fin true m e)) (lt (fin true m e) past_whole) h).0)

high_part : (m : ℕ) (e : ℤ) → fits_of (fin false m e) ≡ true → m * up e / down e < 2 ^ 31
unfolding fits_of lt le eq neg of_bits
high_part m e h = below (m * up e) (down e) (down_pos e) (from_lt (m * up e) (2 ^ 31 * down e) (both_true (le (neg past_whole) (fin false m e)) (lt (fin false m e) past_whole) h).1)

-- ---- the two casts
uncapped : (q : ℕ) → q ≤ 2 ^ 31 → min q (2 ^ 63) ≡ min q (2 ^ 31)
uncapped q h = omega arith

uncapped_below : (q : ℕ) → q < 2 ^ 31 → min q (2 ^ 63 - 1) ≡ min q (2 ^ 31 - 1)
uncapped_below q h = omega arith

no_nan : fits_of nan ≡ true → ⊥
unfolding fits_of lt le eq neg of_bits
no_nan h = false≢true h

no_inf : (s : Bool) → fits_of (inf s) ≡ true → ⊥
unfolding fits_of lt le eq neg of_bits
no_inf true h = false≢true h
no_inf false h = false≢true h

pub same_cast : (x : Float) → fits_of x ≡ true → to_signed 63 x ≡ to_signed 31 x
unfolding to_signed
same_cast nan h = refl
same_cast (inf s) h = absurd (no_inf s h)
same_cast (fin true m e) h = ap (λ (k : ℕ). neg_ℤ (pos k)) (uncapped (m * up e / down e) (low_part m e h))
same_cast (fin false m e) h = ap pos (uncapped_below (m * up e / down e) (high_part m e h))

-- ---- the bits of a count, read back
pub back_32 : (x : Float) (r : ℤ) → r ≡ to_signed 31 x → to_z w32 (of_z w32 r) ≡ to_signed 31 x
back_32 x r e = ap (λ (z : ℤ). to_z w32 (of_z w32 z)) e ∙ to_z-of_z w32 (to_signed 31 x) (record { sfits = to_signed_in 31 x })

back_64 : (x : Float) (r : ℤ) → fits_of x ≡ true → r ≡ to_signed 63 x → to_z w64 (of_z w64 r) ≡ to_signed 31 x
back_64 x r h e = ap (λ (z : ℤ). to_z w64 (of_z w64 z)) e ∙ to_z-of_z w64 (to_signed 63 x) (record { sfits = to_signed_in 63 x }) ∙ same_cast x h

pub narrow_fits : (x : Float) (r : ℤ) → fits_of x ≡ true → r ≡ to_signed 63 x → SFits w32 (to_z w64 (of_z w64 r))
narrow_fits x r h e = subst (SFits w32) (sym (back_64 x r h e)) (record { sfits = to_signed_in 31 x })

pub narrow_is : (x : Float) (r : ℤ) → fits_of x ≡ true → r ≡ to_signed 63 x → to_z w32 (of_z w32 (to_z w64 (of_z w64 r))) ≡ to_signed 31 x
narrow_is x r h e = back_32 x (to_z w64 (of_z w64 r)) (back_64 x r h e)

pub counted_is : (x y z : Float) (r s t : ℤ) → r ≡ to_signed 31 x → s ≡ to_signed 31 y → t ≡ to_signed 31 z → (fits_of x && fits_of y && fits_of z) ≡ true
    → Ok (record { x = to_z w32 (of_z w32 r); y = to_z w32 (of_z w32 s); z = to_z w32 (of_z w32 t) }) ≡ counted_of x y z
unfolding counted_of
counted_is x y z r s t ex ey ez h = rw h (ap Ok (λ i. record { x = back_32 x r ex i; y = back_32 y s ey i; z = back_32 z t ez i }))

-- ---- there and back
whole_part : (m d n : ℕ) → 0 < d → m * 1 ≡ n * d → m / d ≡ n
whole_part m d n D h = ap (λ (z : ℕ). z / d) (sym (mul-one m) ∙ h) ∙ mul-div_cancel n D

cast_is : (y : Float) (s : Bool) (n : ℕ) → HasValue y s n 1 → fits_of y ≡ true → to_signed 31 y ≡ cond s (neg_ℤ (pos n)) (pos n)
unfolding to_signed
cast_is nan s n v h = absurd v
cast_is (inf t) s n v h = absurd v
cast_is (fin true m e) s n v h =
    let k : m * up e / down e ≡ n = whole_part (m * up e) (down e) n (down_pos e) v.1 in
    subst (λ (t : Bool). neg_ℤ (pos (min (m * up e / down e) (2 ^ 31))) ≡ cond t (neg_ℤ (pos n)) (pos n)) v.0
    (ap (λ (z : ℕ). neg_ℤ (pos z)) (least (m * up e / down e) (low_part m e h) ∙ k))
  where
    least : (q : ℕ) → q ≤ 2 ^ 31 → min q (2 ^ 31) ≡ q
    least q g = omega arith
cast_is (fin false m e) s n v h =
    let k : m * up e / down e ≡ n = whole_part (m * up e) (down e) n (down_pos e) v.1 in
    subst (λ (t : Bool). pos (min (m * up e / down e) (2 ^ 31 - 1)) ≡ cond t (neg_ℤ (pos n)) (pos n)) v.0
    (ap pos (least (m * up e / down e) (high_part m e h) ∙ k))
  where
    least : (q : ℕ) → q < 2 ^ 31 → min q (2 ^ 31 - 1) ≡ q
    least q g = omega arith

back : (q : Float) (s : Bool) (n : ℕ) → negative q ≡ s → float_of q (cond s (neg_ℤ (pos n)) (pos n)) ≡ whole_of s n
unfolding float_of of_int round
back q true zero h = ap (λ (t : Bool). fin t 0 (pos 0)) h
back q true (suc n) h = refl
back q false zero h = ap (λ (t : Bool). fin t 0 (pos 0)) h
back q false (suc n) h = refl

pub there_and_back : (q : Float) → T (fits binary64 q) → fits_of (round_of q) ≡ true → float_of q (to_signed 31 (round_of q)) ≡ round_of q
unfolding round_of negative
there_and_back nan p h = absurd (no_nan h)
there_and_back (inf s) p h = absurd (no_inf s h)
there_and_back (fin s m e) p h =
    let n = (2 * (m * up e) + down e) / (2 * down e) in
    ap (float_of (fin s m e)) (cast_is (round_of (fin s m e)) s n (nearest_exact s m e p) h) ∙ back (fin s m e) s n refl
