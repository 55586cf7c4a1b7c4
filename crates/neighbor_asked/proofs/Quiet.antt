-- A coordinate of at most half of its range, and a reference less than that half from it: both are in range (`quiet-in`). By the order, as `Keeps` of cell_square
-- has it. Assumes nothing.
use mathlib.Core.Path.{◌≡◌, refl, sym, ◌∙◌, subst}
use mathlib.Core.Bool.{Bool, true, false, true≢false}
use native.Mathlib.Omega.{arith}
use lib.Dec.{T}
use lib.Ieee.{Float, nan, inf, fin, neg, add, sub, lt, le, is_nan, of_bits}
use lib.Ieee.Bits.{is_true}
use lib.Ieee.Scale.{finite}
use Rattle.float.specs.Def.{abs_of}
use Rattle.float.specs.Arith.{◌⊖◌}
use Rattle.float.proofs.Branches.{yes, both_true}
use Rattle.ranges.specs.Ranged.{within}
use Rattle.cell.specs.Ranged.{entry_limit}
use Rattle.cell.proofs.Order.{lt_not_ge}
use Rattle.cell_square.proofs.Keeps.{before_self, before_of_le, le_of_before, le_through, le_turned, add_keeps, sub_keeps, sub_finite}
use Rattle.neighbor_asked.proofs.Nearby.{unless, le_of_below, not_below, below_through}
use Rattle.neighbor_asked.specs.Strays.{half_entry, quiet_at}

-- ---- a number and its negative are at most its magnitude
le_abs : (x : Float) → T (finite x) → T (le x (abs_of x))
unfolding abs_of
le_abs nan f = absurd f
le_abs (inf s) f = absurd f
le_abs (fin true m e) f = le_of_before (fin true m e) (fin false m e) tt tt (record { is = omega arith })
le_abs (fin false m e) f = le_of_before (fin false m e) (fin false m e) tt tt (before_self (fin false m e))

neg_le_abs : (x : Float) → T (finite x) → T (le (neg x) (abs_of x))
unfolding abs_of neg
neg_le_abs nan f = absurd f
neg_le_abs (inf s) f = absurd f
neg_le_abs (fin true m e) f = le_of_before (fin false m e) (fin false m e) tt tt (before_self (fin false m e))
neg_le_abs (fin false m e) f = le_of_before (fin true m e) (fin false m e) tt tt (record { is = omega arith })

abs_finite : (x y : Float) → T (finite y) → T (le (abs_of x) y) → T (finite x)
unfolding abs_of le
abs_finite nan y f h = absurd h
abs_finite (inf s) nan f h = absurd f
abs_finite (inf s) (inf t) f h = absurd f
abs_finite (inf s) (fin t n d) f h = absurd h
abs_finite (fin s m e) y f h = tt

-- ---- the two limits
number : T (finite entry_limit) × T (finite (neg entry_limit)) × T (finite half_entry) × T (finite (neg half_entry)) × T (finite (neg (neg entry_limit)))
unfolding of_bits neg
number = (tt, tt, tt, tt, tt)

half_left : half_entry ⊖ entry_limit ≡ neg half_entry
unfolding of_bits neg sub add
half_left = refl

half_right : neg half_entry ⊖ neg entry_limit ≡ half_entry
unfolding of_bits neg sub add
half_right = refl

half_turned : neg (neg half_entry) ≡ half_entry
unfolding of_bits neg
half_turned = refl

half_within : T (le half_entry entry_limit)
unfolding of_bits le
half_within = tt

entry_number : is_nan entry_limit ≡ false
unfolding of_bits is_nan
entry_number = refl

-- ---- x within the half, and the reference r at least at the limit: they are the half apart or more
module _ (x : Float) (X : T (finite x)) (h : T (le (abs_of x) half_entry)) where
  low : T (le (neg half_entry) x)
  low = turned x X (le_turned (neg x) half_entry (le_through (neg x) (abs_of x) half_entry (neg_le_abs x X) h))
    where
      turned : (x : Float) → T (finite x) → T (le (neg half_entry) (neg (neg x))) → T (le (neg half_entry) x)
      turned nan f k = absurd f
      turned (inf s) f k = absurd f
      turned (fin true m e) f k = unfold neg in k
      turned (fin false m e) f k = unfold neg in k

  past_high : (r : Float) → T (finite r) → T (finite (x ⊖ r)) → T (le entry_limit r) → T (le half_entry (abs_of (x ⊖ r)))
  past_high r R D k =
      let a = sub_keeps x entry_limit r X number.0 R (before_of_le entry_limit r number.0 R k) in
      let b : T (le (x ⊖ entry_limit) (half_entry ⊖ entry_limit)) =
      unfold sub in add_keeps x (neg entry_limit) half_entry (neg entry_limit) X number.1 number.2 number.1 (before_of_le x half_entry X number.2 (le_through x (abs_of x) half_entry (le_abs x X) h)) (before_self (neg entry_limit)) in
      let c = le_through (x ⊖ r) (x ⊖ entry_limit) (neg half_entry) a (subst (λ (z : Float). T (le (x ⊖ entry_limit) z)) half_left b) in
      let d = subst (λ (z : Float). T (le z (neg (x ⊖ r)))) half_turned (le_turned (x ⊖ r) (neg half_entry) c) in
      le_through half_entry (neg (x ⊖ r)) (abs_of (x ⊖ r)) d (neg_le_abs (x ⊖ r) D)

  past_low : (r : Float) → T (finite r) → T (finite (x ⊖ r)) → T (le r (neg entry_limit)) → T (le half_entry (abs_of (x ⊖ r)))
  past_low r R D k =
      let a = sub_keeps x r (neg entry_limit) X R number.1 (before_of_le r (neg entry_limit) R number.1 k) in
      let b : T (le (neg half_entry ⊖ neg entry_limit) (x ⊖ neg entry_limit)) =
      unfold sub in add_keeps (neg half_entry) (neg (neg entry_limit)) x (neg (neg entry_limit)) number.3 number.4 X number.4 (before_of_le (neg half_entry) x number.3 X low) (before_self (neg (neg entry_limit))) in
      let c = le_through half_entry (x ⊖ neg entry_limit) (x ⊖ r) (subst (λ (z : Float). T (le z (x ⊖ neg entry_limit))) half_right b) a in
      le_through half_entry (x ⊖ r) (abs_of (x ⊖ r)) c (le_abs (x ⊖ r) D)

  past : (r : Float) → T (finite (x ⊖ r)) → T (le entry_limit (abs_of r)) → T (le half_entry (abs_of (x ⊖ r)))
  past nan D k = absurd (sub_finite x nan D).1
  past (inf s) D k = absurd (sub_finite x (inf s) D).1
  past (fin false m e) D k = past_high (fin false m e) tt D (unfold abs_of in k)
  past (fin true m e) D k = past_low (fin true m e) tt D (unfold neg in le_turned entry_limit (fin false m e) (unfold abs_of in k))

abs_number : (r : Float) → T (finite r) → is_nan (abs_of r) ≡ false
unfolding abs_of is_nan
abs_number nan f = absurd f
abs_number (inf s) f = absurd f
abs_number (fin s m e) f = refl

pub quiet_in : (t x r : Float) → lt t half_entry ≡ true → quiet_at t x r ≡ true → (within entry_limit x ≡ true) × (within entry_limit r ≡ true) × (within t (x ⊖ r) ≡ true)
unfolding within
quiet_in t x r k q =
    let p = both_true (within half_entry x) (within t (x ⊖ r)) q in
    let h : T (le (abs_of x) half_entry) = yes p.0 in
    let s = below_through (abs_of (x ⊖ r)) t half_entry p.1 k in
    let X = abs_finite x half_entry number.2 h in
    let D = abs_finite (x ⊖ r) half_entry number.2 (le_of_below (abs_of (x ⊖ r)) half_entry s) in
    let R = (sub_finite x r D).1 in
    (is_true (le (abs_of x) entry_limit) (le_through (abs_of x) half_entry entry_limit h half_within), in_range (le (abs_of r) entry_limit) refl X h D R s, p.1)
  where
    in_range : (b : Bool) → le (abs_of r) entry_limit ≡ b → T (finite x) → T (le (abs_of x) half_entry) → T (finite (x ⊖ r)) → T (finite r) → lt (abs_of (x ⊖ r)) half_entry ≡ true → b ≡ true
    in_range true e X h D R s = refl
    in_range false e X h D R s =
        let n : lt (abs_of r) entry_limit ≡ false = unless (lt (abs_of r) entry_limit) (λ u. true≢false (sym (is_true (le (abs_of r) entry_limit) (le_of_below (abs_of r) entry_limit u)) ∙ e)) in
        let f = not_below entry_limit (abs_of r) entry_number (abs_number r R) n in
        absurd (subst T (lt_not_ge (abs_of (x ⊖ r)) half_entry s) (past x X h r D f))
