-- The test `a + a < len` on floats says just that twice a is below len as a number: below 2 ^ (emax + 1) doubling is exact, and beyond it the sum is
-- no smaller than any value. Assumes nothing.
use mathlib.Core.Path.{◌≡◌, refl, sym, ap, ◌∙◌, subst}
use Prim.Native.Nat.{ℕ, zero, suc, ◌+◌, ◌*◌, ◌^◌, ◌≤◌, ◌<◌}
use native.Mathlib.Nat.{zero-mul, mul-pos, lt_trans, le_trans, le_of_eq, lt_of_not-le, le_of_suc-le-suc, mul_assoc, mul_left_comm, mul_right_comm, mul-lt-mul_of_pos_right, lt_of_mul-lt-mul_right, pow-succ'}
use native.Mathlib.Omega.{arith}
use mathlib.Core.Bool.{Bool, true, false, ◌&&◌, ◌||◌, true≢false}
use lib.IntN.{ℤ}
use lib.Dec.{T, ltb, eqb, ltb→lt, lt→ltb, eqb→eq}
use lib.Pow.{pow_pos, pow-add}
use lib.Ieee.{Float, nan, inf, fin, Format, prec, emax, low, up, down, add, lt, le, eq, fits, round}
use lib.Ieee.Bits.{is_true}
use lib.Ieee.Fits.{down_pos}
use lib.Ieee.Exact.{HasValue, round_exact}
use lib.Ieee.Order.{round_mono}
use lib.Ieee.Scale.{round_same}
use Rattle.float.proofs.Branches.{yes}
use Rattle.float.proofs.Unique.{round_own, holds, place, under_units}
use Rattle.float.proofs.Fraction.{add_at, lt_at}

two : (a : ℕ) → a + a ≡ 2 * a
two a = omega arith

double_is : (f : Format) (m : ℕ) (e : ℤ) → add f (fin false m e) (fin false m e) ≡ round f false (2 * (m * up e)) (down e)
double_is f m e =
    let x = m * up e in
    let D = down e in
    add_at f (fin false m e) (fin false m e) x D x D (down_pos e) (down_pos e) (refl, refl) (refl, refl)
    ∙ round_same f false (x * D + x * D) (D * D) (2 * x) D (mul-pos (down_pos e) (down_pos e)) (down_pos e) (ap (λ (z : ℕ). z * D) (two (x * D) ∙ sym (mul_assoc 2 x D)) ∙ mul_assoc (2 * x) D D)

-- ---- the sum is below len only where twice a is
le_not_lt : (x : Float) (n : ℕ) (d : ℤ) → T (le (fin false n d) x) → T (lt x (fin false n d)) → ⊥
unfolding le lt eq
le_not_lt nan n d a b = b
le_not_lt (inf true) n d a b = a
le_not_lt (inf false) n d a b = b
le_not_lt (fin true m e) n d a b = go (n * up d * down e) (m * up e * down d) a b
  where
    clash : (p q : ℕ) → p ≡ q → p ≡ 0 → 0 < q + p → ⊥
    clash p q a b c = omega arith

    both : (x y : Bool) → T (x && y) → T x × T y
    both true true t = (tt, tt)
    both true false t = absurd t
    both false y t = absurd t

    go : (p q : ℕ) → T (eqb p q && eqb p 0) → T (ltb 0 (q + p)) → ⊥
    go p q a b = let w = both (eqb p q) (eqb p 0) a in clash p q (eqb→eq p q w.0) (eqb→eq p 0 w.1) (ltb→lt 0 (q + p) b)
le_not_lt (fin false m e) n d a b =
    let p = n * up d * down e in
    let q = m * up e * down d in
    go p q (ltb p q) (eqb p q) (ltb→lt p q) (eqb→eq p q) a (ltb→lt q p b)
  where
    less : (p q : ℕ) → p < q → q < p → ⊥
    less p q a b = omega arith

    same : (p q : ℕ) → p ≡ q → q < p → ⊥
    same p q a b = omega arith

    go : (p q : ℕ) (x y : Bool) → (T x → p < q) → (T y → p ≡ q) → T (x || (y && true)) → q < p → ⊥
    go p q true y g h t c = less p q (g tt) c
    go p q false true g h t c = same p q (h tt) c
    go p q false false g h t c = t

module _ (f : Format) (m n : ℕ) (e d : ℤ) (F : T (fits f (fin false (suc n) d))) where
  pub double_below : lt (add f (fin false m e) (fin false m e)) (fin false (suc n) d) ≡ true → 2 * (m * up e * down d) < suc n * up d * down e
  double_below h =
      lt_of_not-le (λ (g : suc n * up d * down e ≤ 2 * (m * up e * down d)).
      le_not_lt (add f (fin false m e) (fin false m e)) (suc n) d
      (subst (λ (z : Float). T (le (fin false (suc n) d) z)) (sym (double_is f m e))
      (subst (λ (z : Float). T (le z (round f false (2 * (m * up e)) (down e)))) (round_own f (fin false (suc n) d) false (suc n * up d) (down d) (down_pos d) F (refl, refl))
      (round_mono f (suc n * up d) (down d) (2 * (m * up e)) (down e) (down_pos d) (down_pos e) (le_trans g (le_of_eq (sym (mul_assoc 2 (m * up e) (down d))))))))
      (yes h))

  -- ---- twice a is below len only where the sum is
  below_top : 2 * (m * up e * down d) < suc n * up d * down e → 2 * (m * up e) < 2 ^ suc (emax f) * down e
  below_top h =
      let E = 2 ^ suc (emax f) in
      lt_of_mul-lt-mul_right (down d)
      (lt_trans (subst (λ (z : ℕ). z < suc n * up d * down e) (sym (mul_assoc 2 (m * up e) (down d))) h)
      (subst (λ (z : ℕ). suc n * up d * down e < z) (mul_right_comm E (down d) (down e)) (mul-lt-mul_of_pos_right (holds f false n d F).under (down_pos e))))

exact_zero : (f : Format) (e : ℤ) → HasValue (round f false (2 * (0 * up e)) (down e)) false (2 * (0 * up e)) (down e)
exact_zero f e =
    round_exact f false (2 * (0 * up e)) (down e) 0 0 (down_pos e) (pow_pos (prec f)) (pow_pos (low f + suc (emax f)))
    (ap (λ (z : ℕ). 2 * z * 2 ^ low f) (zero-mul (up e)) ∙ zero-mul (2 ^ low f) ∙ sym (zero-mul (down e)))

exact_suc : (f : Format) (m : ℕ) (e : ℤ) → T (fits f (fin false (suc m) e)) → 2 * (suc m * up e) < 2 ^ suc (emax f) * down e → HasValue (round f false (2 * (suc m * up e)) (down e)) false (2 * (suc m * up e)) (down e)
exact_suc f m e F h =
    let H = holds f false m e F in
    let P = place (low f) e H.high in
    let L = 2 ^ low f in
    let J = 2 ^ suc P.0 in
    let u : 2 * up e * L ≡ J * down e = mul_assoc 2 (up e) L ∙ ap (λ (z : ℕ). 2 * z) P.1 ∙ sym (mul_assoc 2 (2 ^ P.0) (down e)) ∙ ap (λ (z : ℕ). z * down e) (sym (pow-succ' 2 P.0)) in
    round_exact f false (2 * (suc m * up e)) (down e) (suc m) (suc P.0) (down_pos e) H.short
    (subst (λ (z : ℕ). suc m * J < z) (sym (pow-add 2 (low f) (suc (emax f))))
    (under_units (suc m) (2 * up e) (down e) L J (2 ^ suc (emax f)) (pow_pos (low f)) (down_pos e) u (subst (λ (z : ℕ). z < 2 ^ suc (emax f) * down e) (mul_left_comm 2 (suc m) (up e)) h)))
    (ap (λ (z : ℕ). z * L) (mul_left_comm 2 (suc m) (up e)) ∙ mul_assoc (suc m) (2 * up e) L ∙ ap (λ (z : ℕ). suc m * z) u ∙ sym (mul_assoc (suc m) J (down e)))

exact : (f : Format) (m : ℕ) (e : ℤ) → T (fits f (fin false m e)) → 2 * (m * up e) < 2 ^ suc (emax f) * down e → HasValue (round f false (2 * (m * up e)) (down e)) false (2 * (m * up e)) (down e)
exact f zero e F h = exact_zero f e
exact f (suc m) e F h = exact_suc f m e F h

pub double_reaches : (f : Format) (m n : ℕ) (e d : ℤ) → T (fits f (fin false m e)) → T (fits f (fin false (suc n) d)) → lt (add f (fin false m e) (fin false m e)) (fin false (suc n) d) ≡ false → suc n * up d * down e ≤ 2 * (m * up e * down d)
double_reaches f m n e d G F h =
    le_of_suc-le-suc (lt_of_not-le (λ (g : 2 * (m * up e * down d) < suc n * up d * down e).
    let g' : 2 * (m * up e) * down d < suc n * up d * down e = subst (λ (z : ℕ). z < suc n * up d * down e) (sym (mul_assoc 2 (m * up e) (down d))) g in
    true≢false
    (sym (ap (λ (z : Float). lt z (fin false (suc n) d)) (double_is f m e)
    ∙ lt_at (round f false (2 * (m * up e)) (down e)) (fin false (suc n) d) (2 * (m * up e)) (down e) (suc n * up d) (down d) (down_pos e) (down_pos d) (exact f m e G (below_top f m n e d F g)) (refl, refl)
    ∙ is_true (ltb (2 * (m * up e) * down d) (suc n * up d * down e)) (lt→ltb (2 * (m * up e) * down d) (suc n * up d * down e) g'))
    ∙ h)))
