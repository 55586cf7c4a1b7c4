-- `far-law`: with len above 0 and |x| below 2 ^ 51 lengths, x brought toward 0 by len times the counted lengths is x - len * round(x / len). Assumes nothing.
use mathlib.Core.Path.{◌≡◌, refl, sym, ap, ◌∙◌, subst}
use Prim.Native.Nat.{ℕ, zero, suc, ◌-◌, ◌*◌, ◌^◌, ◌≤◌, ◌<◌}
use native.Mathlib.Nat.{zero-mul, mul-pos, zero-lt-suc}
use native.Mathlib.Omega.{arith}
use mathlib.Core.Bool.{Bool, true, false, cond, false≢true, true≢false}
use lib.IntN.{ℤ, pos}
use lib.Dec.{T, ltb→lt}
use lib.Ieee.{Float, nan, inf, fin, binary64, up, down, neg, add, sub, mul, div, lt, le, eq, round, of_bits}
use lib.Ieee.Fits.{down_pos, up_pos}
use lib.Ieee.Exact.{HasValue}
use lib.Ieee.Order.{round_mono}
use lib.Ieee.Scale.{finite, grid, round_val, round_under}
use Rattle.float.specs.Def.{abs_of, negative, round_of}
use Rattle.float.proofs.Branches.{zero+, yes, abs_high, both_true}
use Rattle.float.proofs.Fraction.{round_neg}
use Rattle.cell_axis.specs.Image.{nearest_of, toward_of, steps_of, in_reach, far_of}
use Rattle.cell_axis.proofs.Quotient.{Plain, round_ends, through_neg, to_zero}
use Rattle.cell_axis.proofs.Count.{steps_law}
use Rattle.cell_axis.proofs.Law.{not_zero, div_is, zero_times, less_zero, above_zero, not_under_zero}

-- 2 ^ 51
abbrev most : Float
most = fin false 1 (pos 51)

-- ---- the rounded quotient, where it is below 2 ^ 51
plain : (q : Float) → (T (finite q) → (a : ℕ) × (c : ℕ) × HasValue q false a c) → T (le zero+ q) → lt q most ≡ true → Plain q
unfolding le lt eq
plain nan v a h = absurd (false≢true h)
plain (inf true) v a h = absurd a
plain (inf false) v a h = absurd (false≢true h)
plain (fin true m e) v a h = absurd (true≢false (v tt).2.0)
plain (fin false m e) v a h = record { m = m; e = e; is = refl }

quotient : (P Q : ℕ) → 0 < Q → lt (round binary64 false P Q) most ≡ true → Plain (round binary64 false P Q)
quotient P Q q h =
    plain (round binary64 false P Q) (λ t. (grid binary64 P Q, 2 ^ 1074, round_val binary64 P Q (round_under binary64 P Q t)))
    (subst (λ (z : Float). T (le z (round binary64 false P Q))) round_ends.0 (round_mono binary64 0 1 P Q (zero-lt-suc 0) q (none P Q))) h
  where
    none : (P Q : ℕ) → 0 * Q ≤ P * 1
    none P Q = omega arith

counted : (q : Float) → Plain q → lt q most ≡ true → steps_of q ≡ round_of q
counted q p h = ap steps_of p.is ∙ steps_law p.m p.e (subst (λ (z : Float). lt z most ≡ true) p.is h) ∙ sym (ap round_of p.is)

-- ---- signs
neg_neg : (x : Float) → neg (neg x) ≡ x
unfolding neg
neg_neg nan = refl
neg_neg (inf true) = refl
neg_neg (inf false) = refl
neg_neg (fin true m e) = refl
neg_neg (fin false m e) = refl

sub_neg : (x l : Float) → sub binary64 x (neg l) ≡ add binary64 x l
unfolding sub
sub_neg x l = ap (λ (z : Float). add binary64 x z) (neg_neg l)

mul_neg : (n : ℕ) (d : ℤ) (r : Float) → mul binary64 (fin false (suc n) d) (neg r) ≡ neg (mul binary64 (fin false (suc n) d) r)
unfolding mul neg
mul_neg n d nan = refl
mul_neg n d (inf true) = rw (not_zero n)
mul_neg n d (inf false) = rw (not_zero n)
mul_neg n d (fin false k g) = sym (round_neg binary64 (suc n * up d * (k * up g)) (down d * down g))
mul_neg n d (fin true k g) = sym (ap neg (sym (round_neg binary64 (suc n * up d * (k * up g)) (down d * down g))) ∙ neg_neg (round binary64 false (suc n * up d * (k * up g)) (down d * down g)))

low_sign : (m : ℕ) (e : ℤ) → le (fin true m e) zero+ ≡ true
low_sign m e = go (le (fin true m e) zero+) refl
  where
    apart : fin true m e ≡ abs_of (fin true m e) → ⊥
    apart h = unfold abs_of in unfold negative in true≢false (ap negative h)

    go : (b : Bool) → le (fin true m e) zero+ ≡ b → le (fin true m e) zero+ ≡ true
    go true h = h
    go false h = absurd (apart (abs_high (fin true m e) h))

-- ---- x = ± m * 2 ^ e and a finite len: r is the rounded quotient of the magnitudes
module _ (m n : ℕ) (e d : ℤ) where
  abbrev P : ℕ
  P = m * up e * down d

  abbrev Q : ℕ
  Q = suc n * up d * down e

  abbrev len : Float
  len = fin false (suc n) d

  abbrev R : Float
  R = round_of (round binary64 false P Q)

  room : 0 < Q
  room = mul-pos (mul-pos (zero-lt-suc n) (up_pos d)) (down_pos e)

  below : lt (round binary64 false P Q) most ≡ true → add binary64 (fin true m e) (toward_of (fin true m e) (mul binary64 len R)) ≡ nearest_of len (fin true m e)
  unfolding nearest_of of_bits
  below h =
      rw (low_sign m e)
      (sym (ap (λ (z : Float). sub binary64 (fin true m e) (mul binary64 len (round_of z))) (div_is true m n e d ∙ sym (round_neg binary64 P Q))
      ∙ ap (λ (z : Float). sub binary64 (fin true m e) (mul binary64 len z)) (through_neg (round binary64 false P Q) (quotient P Q room h))
      ∙ ap (λ (z : Float). sub binary64 (fin true m e) z) (mul_neg n d R)
      ∙ sub_neg (fin true m e) (mul binary64 len R)))

  same : nearest_of len (fin false m e) ≡ sub binary64 (fin false m e) (mul binary64 len R)
  unfolding nearest_of
  same = ap (λ (z : Float). sub binary64 (fin false m e) (mul binary64 len (round_of z))) (div_is false m n e d)

above : (m n : ℕ) (e d : ℤ) → add binary64 (fin false m e) (toward_of (fin false m e) (mul binary64 (fin false (suc n) d) (R m n e d))) ≡ nearest_of (fin false (suc n) d) (fin false m e)
above (suc m) n e d = unfold of_bits in rw (above_zero m e) (unfold sub in sym (same (suc m) n e d))
above zero n e d = sym (same zero n e d ∙ either (le (fin false 0 e) (of_bits binary64 0)))
  where
    l : Float
    l = mul binary64 (fin false (suc n) d) (R zero n e d)

    few : (p q : ℕ) → p ≡ 0 → p * 2 ^ 54 ≤ (2 ^ 53 - 1) * q
    few p q h = omega arith

    none : l ≡ zero+
    none =
        ap (λ (z : Float). mul binary64 (fin false (suc n) d) z) (to_zero (P zero n e d) (Q zero n e d) (room zero n e d) (few (P zero n e d) (Q zero n e d) (ap (λ (z : ℕ). z * down d) (zero-mul (up e)) ∙ zero-mul (down d))))
        ∙ zero_times false (suc n) d

    plus : sub binary64 (fin false 0 e) l ≡ add binary64 (fin false 0 e) l
    plus = ap (λ (z : Float). sub binary64 (fin false 0 e) z) none ∙ less_zero false 0 e ∙ sym (ap (λ (z : Float). add binary64 (fin false 0 e) z) none)

    either : (b : Bool) → sub binary64 (fin false 0 e) l ≡ add binary64 (fin false 0 e) (cond b l (neg l))
    either true = plus
    either false = unfold sub in refl

-- ---- an infinite len: both are no number
zero_steps : steps_of zero+ ≡ zero+
zero_steps = steps_law 0 (pos 0) (unfold lt in refl) ∙ (unfold round_of in unfold round in refl)

no_number : (s : Bool) (m : ℕ) (e : ℤ) (b : Bool) → add binary64 (fin s m e) (cond b (mul binary64 (inf false) zero+) (neg (mul binary64 (inf false) zero+))) ≡ nan
unfolding add mul neg
no_number s m e true = refl
no_number s m e false = refl

infinite : (s : Bool) (m : ℕ) (e : ℤ) → far_of (fin false m e) (inf false) (fin s m e) ≡ nearest_of (inf false) (fin s m e)
unfolding far_of nearest_of div round_of
infinite true m e =
    ap (λ (z : Float). add binary64 (fin true m e) (toward_of (fin true m e) (mul binary64 (inf false) z))) zero_steps ∙ no_number true m e (le (fin true m e) (of_bits binary64 0)) ∙ (unfold sub in unfold mul in unfold round in refl)
infinite false m e =
    ap (λ (z : Float). add binary64 (fin false m e) (toward_of (fin false m e) (mul binary64 (inf false) z))) zero_steps ∙ no_number false m e (le (fin false m e) (of_bits binary64 0)) ∙ (unfold sub in unfold mul in unfold round in refl)

-- ---- the law
by_sign : (s : Bool) (m n : ℕ) (e d : ℤ) → lt (round binary64 false (P m n e d) (Q m n e d)) most ≡ true
    → add binary64 (fin s m e) (toward_of (fin s m e) (mul binary64 (fin false (suc n) d) (R m n e d))) ≡ nearest_of (fin false (suc n) d) (fin s m e)
by_sign true m n e d h = below m n e d h
by_sign false m n e d h = above m n e d

finite_len : (s : Bool) (m n : ℕ) (e d : ℤ) → lt (div binary64 (fin false m e) (fin false (suc n) d)) most ≡ true → far_of (fin false m e) (fin false (suc n) d) (fin s m e) ≡ nearest_of (fin false (suc n) d) (fin s m e)
unfolding far_of
finite_len s m n e d h =
    let q = round binary64 false (P m n e d) (Q m n e d) in
    let k : lt q most ≡ true = subst (λ (z : Float). lt z most ≡ true) (div_is false m n e d) h in
    ap (λ (z : Float). add binary64 (fin s m e) (toward_of (fin s m e) (mul binary64 (fin false (suc n) d) z))) (ap steps_of (div_is false m n e d) ∙ counted q (quotient (P m n e d) (Q m n e d) (room m n e d) k) k)
    ∙ by_sign s m n e d k

none_above : (d : ℤ) → lt zero+ (fin false zero d) ≡ true → ⊥
unfolding lt
none_above d k = not_under_zero (0 * 1 * down d) (up d) 1 (ltb→lt (0 * 1 * down d) (0 * up d * 1) (yes k))

by_len : (len : Float) (s : Bool) (m : ℕ) (e : ℤ) → lt zero+ len ≡ true → lt (div binary64 (fin false m e) len) most ≡ true → far_of (fin false m e) len (fin s m e) ≡ nearest_of len (fin s m e)
by_len nan s m e k h = absurd (false≢true (unfold lt in k))
by_len (inf true) s m e k h = absurd (false≢true (unfold lt in k))
by_len (inf false) s m e k h = infinite s m e
by_len (fin true n d) s m e k h = absurd (false≢true (unfold lt in k))
by_len (fin false zero d) s m e k h = absurd (none_above d k)
by_len (fin false (suc n) d) s m e k h = finite_len s m n e d h

inf_over : (len : Float) → lt zero+ len ≡ true → lt (div binary64 (inf false) len) most ≡ true → ⊥
unfolding lt div
inf_over nan k h = false≢true h
inf_over (inf t) k h = false≢true h
inf_over (fin true n d) k h = false≢true k
inf_over (fin false n d) k h = false≢true h

pub far_law : (len x : Float) → in_reach (abs_of x) len ≡ true → far_of (abs_of x) len x ≡ nearest_of len x
unfolding in_reach abs_of of_bits
far_law len nan h = absurd (false≢true (unfold div in unfold lt in (both_true (lt zero+ len) (lt (div binary64 nan len) most) h).1))
far_law len (inf s) h = let t = both_true (lt zero+ len) (lt (div binary64 (inf false) len) most) h in absurd (inf_over len t.0 t.1)
far_law len (fin s m e) h = let t = both_true (lt zero+ len) (lt (div binary64 (fin false m e) len) most) h in by_len len s m e t.0 t.1

-- the same as the code has it: a is the magnitude, r the long way's answer
pub far_apart : (len x a r : Float) → a ≡ abs_of x → in_reach a len ≡ true → r ≡ far_of a len x → r ≡ nearest_of len x
far_apart len x a r A h R = R ∙ ap (λ (z : Float). far_of z len x) A ∙ far_law len x (subst (λ (z : Float). in_reach z len ≡ true) A h)
