-- How far differences of one step are from 0 at least (`gap-law`, `shared-gap`), and sums of three squares in order (`sums-keep`). Assumes nothing.
use mathlib.Core.Path.{◌≡◌, refl, sym, subst}
use mathlib.Core.Bool.{Bool, true, false, not, cond, ◌&&◌, false≢true}
use Prim.Native.Nat.{ℕ, ◌+◌, ◌*◌, ◌≤◌, ◌<◌}
use native.Mathlib.Nat.{mul-mul-mul_comm, mul-le-mul, mul-pos, le_of_eq, le_trans}
use native.Mathlib.Omega.{arith}
use borrow.Author.Tests.{ltb-true, lt-ltb}
use lib.IntN.{ℤ}
use lib.Dec.{T}
use lib.Ieee.{Float, nan, inf, fin, binary64, up, down, neg, add, mul, lt, le, of_bits}
use lib.Ieee.Fits.{down_pos}
use lib.Ieee.Order.{round_mono}
use lib.Ieee.Scale.{finite}
use Rattle.float.specs.Arith.{◌⊕◌, ◌⊖◌, bits}
use Rattle.float.proofs.Branches.{zero+, yes}
use Rattle.cell_square.specs.Square.{square, in_half, steady_of, step_of, gap_of}
use Rattle.cell_square.proofs.Law.{square_neg}
use Rattle.cell_square.proofs.Keeps.{Before, before_self, before_of_le, le_through, le_turned, from_zero, add_keeps}
use Rattle.cell_square.proofs.Between.{Ordered, small_ends, differences, shared_differences}

-- ---- from 0 up
top : (x : Float) → T (le zero+ x) → T (le x (inf false))
unfolding le
top nan h = absurd h
top (inf true) h = absurd h
top (inf false) h = tt
top (fin s m e) h = tt

square_up : (s : Bool) (m : ℕ) (e : ℤ) → T (le zero+ (square (fin s m e)))
unfolding mul
square_up true m e = from_zero (m * up e * (m * up e)) (down e * down e) (mul-pos (down_pos e) (down_pos e))
square_up false m e = from_zero (m * up e * (m * up e)) (down e * down e) (mul-pos (down_pos e) (down_pos e))

-- of what is in order with something, so that it is no nan
square_first : (x y : Float) → T (le x y) → T (le zero+ (square x))
square_first nan y h = absurd (unfold le in h)
square_first (inf true) y h = unfold mul in unfold le in tt
square_first (inf false) y h = unfold mul in unfold le in tt
square_first (fin s m e) y h = square_up s m e

-- ---- the further from 0, the larger the square
squares : (a b c d : ℕ) → a * d ≤ b * c → a * a * (d * d) ≤ b * b * (c * c)
squares a b c d h = le_trans (le_of_eq (mul-mul-mul_comm a a d d)) (le_trans (mul-le-mul h h) (le_of_eq (mul-mul-mul_comm b c b c)))

wider : (t : Bool) (m n : ℕ) (e d : ℤ) → m * up e * down d ≤ n * up d * down e → T (le (square (fin false m e)) (square (fin t n d)))
unfolding mul
wider true m n e d h = round_mono binary64 (m * up e * (m * up e)) (down e * down e) (n * up d * (n * up d)) (down d * down d) (mul-pos (down_pos e) (down_pos e)) (mul-pos (down_pos d) (down_pos d)) (squares (m * up e) (n * up d) (down e) (down d) h)
wider false m n e d h = round_mono binary64 (m * up e * (m * up e)) (down e * down e) (n * up d * (n * up d)) (down d * down d) (mul-pos (down_pos e) (down_pos e)) (mul-pos (down_pos d) (down_pos d)) (squares (m * up e) (n * up d) (down e) (down d) h)

infinite_square : square (inf false) ≡ inf false
unfolding mul
infinite_square = refl

in_order_lem : (t : Bool) (m n : ℕ) (e d : ℤ) → Before (fin false m e) (fin t n d) → m * up e * down d ≤ n * up d * down e
in_order_lem true m n e d h = omega (arith, h.is)
in_order_lem false m n e d h = omega (arith, h.is)

square_rises : (u y : Float) → lt (bits 0) u ≡ true → T (le u y) → T (le (square u) (square y))
square_rises nan y p h = absurd (unfold le in h)
square_rises (inf true) y p h = absurd (false≢true (unfold of_bits in unfold lt in p))
square_rises (inf false) nan p h = absurd (unfold le in h)
square_rises (inf false) (inf true) p h = absurd (unfold le in h)
square_rises (inf false) (inf false) p h = unfold mul in unfold le in tt
square_rises (inf false) (fin t n d) p h = absurd (unfold le in h)
square_rises (fin true m e) y p h = absurd (false≢true (unfold of_bits in unfold lt in p))
square_rises (fin false m e) nan p h = absurd (unfold le in h)
square_rises (fin false m e) (inf true) p h = absurd (unfold le in h)
square_rises (fin false m e) (inf false) p h = subst (λ (z : Float). T (le (square (fin false m e)) z)) (sym infinite_square) (top (square (fin false m e)) (square_up false m e))
square_rises (fin false m e) (fin t n d) p h = wider t m n e d (in_order_lem t m n e d (before_of_le (fin false m e) (fin t n d) tt tt h))

turned_up : (v : Float) → lt v (bits 0) ≡ true → lt (bits 0) (neg v) ≡ true
unfolding lt neg of_bits
turned_up nan h = absurd (false≢true h)
turned_up (inf true) h = refl
turned_up (inf false) h = absurd (false≢true h)
turned_up (fin true m e) h = lt-ltb (0 * 1 * down e) (m * up e * 1) (more (m * up e) (down e) (ltb-true 0 (m * up e * 1 + 0 * 1 * down e) h))
  where
    more : (a c : ℕ) → 0 < a * 1 + 0 * 1 * c → 0 * 1 * c < a * 1
    more a c h = omega arith
turned_up (fin false m e) h = absurd (none (m * up e) (down e) (ltb-true (m * up e * 1) (0 * 1 * down e) h))
  where
    none : (a c : ℕ) → a * 1 < 0 * 1 * c → ⊥
    none a c h = omega arith

square_falls : (v y : Float) → lt v (bits 0) ≡ true → T (le y v) → T (le (square v) (square y))
square_falls v y p h = subst (λ (z : Float). T (le z (square y))) (square_neg v) (subst (λ (z : Float). T (le (square (neg v)) z)) (square_neg y) (square_rises (neg v) (neg y) (turned_up v p) (le_turned y v h)))

-- ---- the gap of what lies between u and v
pub record Gapped (g y : Float) : Type 0 where
  pub least : T (le zero+ (square g))
  pub most : T (le (square g) (square y))

null_square : square (bits 0) ≡ zero+
unfolding of_bits mul
null_square = refl

pub gapped : (u y v : Float) → T (le u y) → T (le y v) → (b c : Bool) → lt (bits 0) u ≡ b → lt v (bits 0) ≡ c → Gapped (cond b u (cond c v (bits 0))) y
gapped u y v h k true c p q = record { least = square_first u y h; most = square_rises u y p h }
gapped u y v h k false true p q =
    let m = square_falls v y q k in
    record { least = subst (λ (z : Float). T (le zero+ z)) (square_neg v) (square_first (neg v) (neg y) (le_turned y v k)); most = m }
gapped u y v h k false false p q =
    record { least = subst (λ (z : Float). T (le zero+ z)) (sym null_square) (unfold le in tt); most = subst (λ (z : Float). T (le z (square y))) (sym null_square) (square_first y v k) }

-- ---- the step is finite
length_finite : (l : Float) → lt (bits 0) l ≡ true → lt l (inf false) ≡ true → T (finite l)
unfolding lt of_bits
length_finite nan p h = absurd (false≢true h)
length_finite (inf true) p h = absurd (false≢true p)
length_finite (inf false) p h = absurd (false≢true h)
length_finite (fin s m e) p h = tt

step_finite : (l : Float) → T (finite l) → (b c : Bool) → T (finite (cond b (bits 0) (cond c (neg l) l)))
unfolding neg of_bits
step_finite nan p b c = absurd p
step_finite (inf s) p b c = absurd p
step_finite (fin s m e) p true c = tt
step_finite (fin s m e) p false true = tt
step_finite (fin s m e) p false false = tt

pub steps_finite : (l low high : Float) → T (finite l) → T (finite (step_of l low high))
unfolding step_of
steps_finite l low high p = step_finite l p (in_half l low && in_half l high) (not (in_half l low) && lt (bits 0) low)

gap_by : (s a b lo hi : Float) → T (finite s) → Ordered a b lo hi → Gapped (gap_of s (a ⊖ hi) (a ⊖ lo)) (a ⊖ b ⊕ s)
unfolding gap_of
gap_by s a b lo hi F w =
    let low = a ⊖ hi in
    let high = a ⊖ lo in
    gapped (low ⊕ s) (a ⊖ b ⊕ s) (high ⊕ s)
    (add_keeps low s (a ⊖ b) s w.low F w.mid F w.first (before_self s))
    (add_keeps (a ⊖ b) s high s w.mid F w.high F w.second (before_self s))
    (lt (bits 0) (low ⊕ s)) (lt (high ⊕ s) (bits 0)) refl refl

pub gap_law : (l a b lo hi : Float) → lt l (inf false) ≡ true → le lo b ≡ true → le b hi ≡ true → steady_of l (a ⊖ hi) (a ⊖ lo) ≡ true
    → Gapped (gap_of (step_of l (a ⊖ hi) (a ⊖ lo)) (a ⊖ hi) (a ⊖ lo)) (a ⊖ b ⊕ step_of l (a ⊖ hi) (a ⊖ lo))
gap_law l a b lo hi fine p q h =
    gap_by (step_of l (a ⊖ hi) (a ⊖ lo)) a b lo hi (steps_finite l (a ⊖ hi) (a ⊖ lo) (length_finite l (small_ends l (a ⊖ hi) (a ⊖ lo) h).positive fine))
    (differences l a b lo hi p q h)

-- .. by a step that the differences of more places have
pub shared_gap : (l c a d lo b hi : Float) → lt l (inf false) ≡ true → le c a ≡ true → le a d ≡ true → le lo b ≡ true → le b hi ≡ true → steady_of l (c ⊖ hi) (d ⊖ lo) ≡ true
    → Gapped (gap_of (step_of l (c ⊖ hi) (d ⊖ lo)) (a ⊖ hi) (a ⊖ lo)) (a ⊖ b ⊕ step_of l (c ⊖ hi) (d ⊖ lo))
shared_gap l c a d lo b hi fine p q r t h =
    gap_by (step_of l (c ⊖ hi) (d ⊖ lo)) a b lo hi (steps_finite l (c ⊖ hi) (d ⊖ lo) (length_finite l (small_ends l (c ⊖ hi) (d ⊖ lo) h).positive fine))
    (shared_differences l c a d lo b hi p q r t h)

-- ---- sums of what is not negative
nothing : zero+ ⊕ zero+ ≡ zero+
unfolding add
nothing = refl

sum_up : (x y : Float) → T (le zero+ x) → T (le zero+ y) → T (le zero+ (x ⊕ y))
sum_up nan y h k = absurd (unfold le in h)
sum_up (inf true) y h k = absurd (unfold le in h)
sum_up (inf false) nan h k = absurd (unfold le in k)
sum_up (inf false) (inf true) h k = absurd (unfold le in k)
sum_up (inf false) (inf false) h k = unfold add in unfold le in tt
sum_up (inf false) (fin t n d) h k = unfold add in unfold le in tt
sum_up (fin s m e) nan h k = absurd (unfold le in k)
sum_up (fin s m e) (inf true) h k = absurd (unfold le in k)
sum_up (fin s m e) (inf false) h k = unfold add in unfold le in tt
sum_up (fin s m e) (fin t n d) h k =
    subst (λ (z : Float). T (le z (fin s m e ⊕ fin t n d))) nothing
    (add_keeps zero+ zero+ (fin s m e) (fin t n d) tt tt tt tt (before_of_le zero+ (fin s m e) tt tt h) (before_of_le zero+ (fin t n d) tt tt k))

-- x' or y' is an infinity
infinite_left : (x : Float) → T (le zero+ x) → inf false ⊕ x ≡ inf false
infinite_left nan h = absurd (unfold le in h)
infinite_left (inf true) h = absurd (unfold le in h)
infinite_left (inf false) h = unfold add in refl
infinite_left (fin s m e) h = unfold add in refl

infinite_right : (x : Float) → T (le zero+ x) → x ⊕ inf false ≡ inf false
infinite_right nan h = absurd (unfold le in h)
infinite_right (inf true) h = absurd (unfold le in h)
infinite_right (inf false) h = unfold add in refl
infinite_right (fin s m e) h = unfold add in refl

under_finite : (x : Float) (t : Bool) (n : ℕ) (d : ℤ) → T (le zero+ x) → T (le x (fin t n d)) → T (finite x)
unfolding le
under_finite nan t n d h k = absurd h
under_finite (inf true) t n d h k = absurd h
under_finite (inf false) t n d h k = absurd k
under_finite (fin s m e) t n d h k = tt

sum_keeps : (x y x' y' : Float) → T (le zero+ x) → T (le zero+ y) → T (le x x') → T (le y y') → T (le (x ⊕ y) (x' ⊕ y'))
sum_keeps x y nan y' p q h k = absurd (unfold le in le_through zero+ x nan p h)
sum_keeps x y (inf true) y' p q h k = absurd (unfold le in le_through zero+ x (inf true) p h)
sum_keeps x y (inf false) y' p q h k = subst (λ (z : Float). T (le (x ⊕ y) z)) (sym (infinite_left y' (le_through zero+ y y' q k))) (top (x ⊕ y) (sum_up x y p q))
sum_keeps x y (fin s m e) nan p q h k = absurd (unfold le in le_through zero+ y nan q k)
sum_keeps x y (fin s m e) (inf true) p q h k = absurd (unfold le in le_through zero+ y (inf true) q k)
sum_keeps x y (fin s m e) (inf false) p q h k = subst (λ (z : Float). T (le (x ⊕ y) z)) (sym (infinite_right (fin s m e) (le_through zero+ x (fin s m e) p h))) (top (x ⊕ y) (sum_up x y p q))
sum_keeps x y (fin s m e) (fin t n d) p q h k =
    let X = under_finite x s m e p h in
    let Y = under_finite y t n d q k in
    add_keeps x y (fin s m e) (fin t n d) X Y tt tt (before_of_le x (fin s m e) X tt h) (before_of_le y (fin t n d) Y tt k)

-- what the sum of the gaps' squares does not keep to, no sum of the squares keeps to
pub sums_keep : {g h i x y z : Float} (limit : Float) → Gapped g x → Gapped h y → Gapped i z → le (square g ⊕ square h ⊕ square i) limit ≡ false → le (square x ⊕ square y ⊕ square z) limit ≡ false
sums_keep {g} {h} {i} {x} {y} {z} limit a b c e = go (le (square x ⊕ square y ⊕ square z) limit) refl
  where
    kept : T (le (square g ⊕ square h ⊕ square i) (square x ⊕ square y ⊕ square z))
    kept = sum_keeps (square g ⊕ square h) (square i) (square x ⊕ square y) (square z) (sum_up (square g) (square h) a.least b.least) c.least (sum_keeps (square g) (square h) (square x) (square y) a.least b.least a.most b.most) c.most

    go : (o : Bool) → le (square x ⊕ square y ⊕ square z) limit ≡ o → o ≡ false
    go false p = refl
    go true p = absurd (subst T e (le_through (square g ⊕ square h ⊕ square i) (square x ⊕ square y ⊕ square z) limit kept (yes p)))
