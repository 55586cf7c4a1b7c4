-- Two floats compared: at most one of below, equal and above holds, and one of them does where neither is a not-a-number. Assumes nothing.
use mathlib.Core.Path.{◌≡◌, refl, sym, ◌∙◌}
use Prim.Native.Nat.{ℕ, ◌+◌, ◌*◌, ◌<◌}
use native.Mathlib.Omega.{arith}
use mathlib.Core.Bool.{Bool, true, false, ◌&&◌, ◌||◌, false≢true, true≢false}
use lib.Dec.{eqb}
use borrow.Author.Tests.{ltb-true, ltb-false, eqb-true, le-ltb, eq-eqb, ne_eqb}
use lib.Ieee.{Float, nan, inf, fin, up, down, lt, eq, le, below, level, is_nan}

-- ---- on signs and sizes
asym : (s t : Bool) (a b : ℕ) → below s a t b ≡ true → below t b s a ≡ false
asym false false a b h = le-ltb b a (omega (arith, ltb-true a b h))
asym false true a b h = absurd (false≢true h)
asym true false a b h = refl
asym true true a b h = le-ltb a b (omega (arith, ltb-true b a h))

-- equal sizes that are both 0 have the sum 0
no_zeros : (a b : ℕ) → 0 < a + b → (p q : Bool) → (p ≡ true → a ≡ b) → (q ≡ true → a ≡ 0) → (p && (false || q)) ≡ false
no_zeros a b g false q e z = refl
no_zeros a b g true false e z = refl
no_zeros a b g true true e z = absurd (omega (arith, e refl, z refl))

apart : (s t : Bool) (a b : ℕ) → below s a t b ≡ true → (level s a t b ≡ false) × (level t b s a ≡ false)
apart false false a b h = (rw (ne_eqb a b (λ (e : a ≡ b). omega (arith, ltb-true a b h))), rw (ne_eqb b a (λ (e : b ≡ a). omega (arith, ltb-true a b h))))
apart false true a b h = absurd (false≢true h)
apart true false a b h =
    let g = ltb-true 0 (a + b) h in
    (no_zeros a b g (eqb a b) (eqb a 0) (eqb-true a b) (eqb-true a 0), no_zeros b a (omega arith) (eqb b a) (eqb b 0) (eqb-true b a) (eqb-true b 0))
apart true true a b h = (rw (ne_eqb a b (λ (e : a ≡ b). omega (arith, ltb-true b a h))), rw (ne_eqb b a (λ (e : b ≡ a). omega (arith, ltb-true b a h))))

meets : (s t : Bool) (a b : ℕ) → below s a t b ≡ false → below t b s a ≡ false → level s a t b ≡ true
meets false false a b h k = rw (eq-eqb a b (omega (arith, ltb-false a b h, ltb-false b a k)))
meets false true a b h k = rw (eq-eqb a b (omega (arith, ltb-false 0 (b + a) k)), eq-eqb a 0 (omega (arith, ltb-false 0 (b + a) k)))
meets true false a b h k = rw (eq-eqb a b (omega (arith, ltb-false 0 (a + b) h)), eq-eqb a 0 (omega (arith, ltb-false 0 (a + b) h)))
meets true true a b h k = rw (eq-eqb a b (omega (arith, ltb-false b a h, ltb-false a b k)))

-- ---- on floats
pub lt_not_gt : (x y : Float) → lt x y ≡ true → lt y x ≡ false
unfolding lt
lt_not_gt nan y h = absurd (false≢true h)
lt_not_gt (inf s) nan h = refl
lt_not_gt (inf true) (inf true) h = refl
lt_not_gt (inf true) (inf false) h = refl
lt_not_gt (inf false) (inf t) h = absurd (false≢true h)
lt_not_gt (inf true) (fin t n d) h = refl
lt_not_gt (inf false) (fin t n d) h = absurd (false≢true h)
lt_not_gt (fin s m e) nan h = refl
lt_not_gt (fin s m e) (inf true) h = absurd (false≢true h)
lt_not_gt (fin s m e) (inf false) h = refl
lt_not_gt (fin s m e) (fin t n d) h = asym s t (m * up e * down d) (n * up d * down e) h

pub lt_not_eq : (x y : Float) → lt x y ≡ true → (eq x y ≡ false) × (eq y x ≡ false)
unfolding lt eq
lt_not_eq nan y h = absurd (false≢true h)
lt_not_eq (inf s) nan h = (refl, refl)
lt_not_eq (inf true) (inf true) h = absurd (false≢true h)
lt_not_eq (inf true) (inf false) h = (refl, refl)
lt_not_eq (inf false) (inf t) h = absurd (false≢true h)
lt_not_eq (inf s) (fin t n d) h = (refl, refl)
lt_not_eq (fin s m e) nan h = (refl, refl)
lt_not_eq (fin s m e) (inf t) h = (refl, refl)
lt_not_eq (fin s m e) (fin t n d) h = apart s t (m * up e * down d) (n * up d * down e) h

pub lt_not_ge : (x y : Float) → lt x y ≡ true → le y x ≡ false
unfolding le
lt_not_ge x y h = rw (lt_not_gt x y h, (lt_not_eq x y h).1)

pub compared : (x y : Float) → is_nan x ≡ false → is_nan y ≡ false → lt x y ≡ false → lt y x ≡ false → eq x y ≡ true
unfolding lt eq is_nan
compared nan y p q h k = absurd (true≢false p)
compared (inf s) nan p q h k = absurd (true≢false q)
compared (inf true) (inf true) p q h k = refl
compared (inf true) (inf false) p q h k = absurd (true≢false h)
compared (inf false) (inf true) p q h k = absurd (true≢false k)
compared (inf false) (inf false) p q h k = refl
compared (inf true) (fin t n d) p q h k = absurd (true≢false h)
compared (inf false) (fin t n d) p q h k = absurd (true≢false k)
compared (fin s m e) nan p q h k = absurd (true≢false q)
compared (fin s m e) (inf true) p q h k = absurd (true≢false k)
compared (fin s m e) (inf false) p q h k = absurd (true≢false h)
compared (fin s m e) (fin t n d) p q h k = meets s t (m * up e * down d) (n * up d * down e) h k

-- what is equal is neither below nor above
unless : (b : Bool) → (b ≡ true → ⊥) → b ≡ false
unless true n = absurd (n refl)
unless false n = refl

pub eq_not_lt : (x y : Float) → eq x y ≡ true → (lt x y ≡ false) × (lt y x ≡ false)
eq_not_lt x y h = (
  unless (lt x y) (λ (t : lt x y ≡ true). true≢false (sym h ∙ (lt_not_eq x y t).0)),
  unless (lt y x) (λ (t : lt y x ≡ true). true≢false (sym h ∙ (lt_not_eq y x t).1)),
)
