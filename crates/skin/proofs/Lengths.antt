-- The laws of lengths: the distance along an axis is a metric; Cauchy and Schwarz; Minkowski. Assumes nothing.
use Prim.Native.Nat.{ℕ, ◌+◌, ◌*◌, ◌-◌, ◌≤◌, ◌<◌, min}
use mathlib.Core.Path.{◌≡◌}
use mathlib.Core.Bool.{true, false}
use mathlib.Core.Logic.{⊎_elim}
use native.Mathlib.Nat.{mul-le-mul}
use native.Mathlib.Omega.{arith}
use Rattle.lists.proofs.Cases.{below_or, true_or_false}
use Rattle.bins.specs.Edge.{gap, distance}
use Rattle.frame.specs.declared.Side.{Side}
use Rattle.frame.specs.Distance.{square_of}
use Rattle.frame.proofs.Nearby.{root_le}
use Rattle.skin.specs.Lengths.{Metric, length_squared, alongside, CauchySchwarz, Minkowski}

-- ---- the distance along an axis
gap_none : (a : ℕ) → gap a a ≡ 0
unfolding gap
gap_none a = omega arith

gap_turned : (a b : ℕ) → gap a b ≡ gap b a
unfolding gap
gap_turned a b = omega arith

gap_apart : (a b : ℕ) → gap a b ≡ 0 → a ≡ b
unfolding gap
gap_apart a b h = omega arith

gap_below : (e a b : ℕ) → a < e → b < e → gap a b < e
unfolding gap
gap_below e a b ha hb = omega arith

gap_triangle : (a b c : ℕ) → gap a c ≤ gap a b + gap b c
unfolding gap
gap_triangle a b c = omega arith

-- three places of one axis: all the way round is at most twice the edge
gap_round : (e a b c : ℕ) → a < e → b < e → c < e → gap a b + gap b c + gap a c ≤ 2 * e
unfolding gap
gap_round e a b c ha hb hc = omega arith

-- the smaller of g and e - g keeps the triangle law
smaller_triangle : (e g h k : ℕ) → g < e → h < e → k < e → k ≤ g + h → g ≤ k + h → h ≤ g + k → g + h + k ≤ 2 * e
    → min k (e - k) ≤ min g (e - g) + min h (e - h)
smaller_triangle e g h k gb hb kb kt gt ht round = omega arith

round_triangle : (e a b c : ℕ) → a < e → b < e → c < e → distance true e a c ≤ distance true e a b + distance true e b c
unfolding distance
round_triangle e a b c ha hb hc =
    smaller_triangle e (gap a b) (gap b c) (gap a c) (gap_below e a b ha hb) (gap_below e b c hb hc) (gap_below e a c ha hc)
    (gap_triangle a b c)
    (omega (arith, gap_triangle a c b, gap_turned b c))
    (omega (arith, gap_triangle b a c, gap_turned a b))
    (gap_round e a b c ha hb hc)

round_none : (e a : ℕ) → distance true e a a ≡ 0
unfolding distance
round_none e a = omega (arith, gap_none a)

round_apart : (e a b : ℕ) → a < e → b < e → distance true e a b ≡ 0 → a ≡ b
unfolding distance
round_apart e a b ha hb h = gap_apart a b (omega (arith, gap_below e a b ha hb))

-- THEOREM. The distance along an axis, periodic or open, is a metric.
pub metric : (e : Side) → Metric e
unfolding distance
metric e =
    ⊎_elim
    (λ (t : e.round ≡ true).
    record {
      none = λ a. rw t (round_none e.edge a);
      apart = λ a b ha hb h. round_apart e.edge a b ha hb (rw t at h);
      turned = λ a b. rw (t, gap_turned a b);
      triangle = λ a b c ha hb hc. rw t (round_triangle e.edge a b c ha hb hc);
    })
    (λ (n : e.round ≡ false).
    record {
      none = λ a. rw n (gap_none a);
      apart = λ a b _ _ h. gap_apart a b (rw n at h);
      turned = λ a b. rw n (gap_turned a b);
      triangle = λ a b c _ _ _. rw n (gap_triangle a b c);
    })
    (true_or_false e.round)

-- ---- squared lengths
-- (p - q)² is not below 0
two_products : (p q : ℕ) → 2 * (p * q) ≤ p * p + q * q
two_products p q =
    ⊎_elim (λ (h : p < q). rising p q (omega arith)) (λ (h : q ≤ p). omega (arith, rising q p h)) (below_or p q)
  where
    rising : (p q : ℕ) → p ≤ q → 2 * (p * q) ≤ p * p + q * q
    rising p q h =
        let d = q - p in
        let e : q ≡ p + d = omega arith in
        rw e (omega arith)

-- THEOREM. Cauchy and Schwarz, for three whole numbers.
pub cauchy_schwarz : CauchySchwarz
cauchy_schwarz a b c x y z =
    omega (arith, two_products (a * y) (b * x), two_products (a * z) (c * x), two_products (b * z) (c * y))

pub squares_rise : (d m : ℕ) → d ≤ m → square_of d ≤ square_of m
squares_rise d m h = mul-le-mul h h

-- so two lengths within m and n go at most m * n along each other
alongside_within : (a b c x y z m n : ℕ) → length_squared a b c ≤ square_of m → length_squared x y z ≤ square_of n → alongside a b c x y z ≤ m * n
alongside_within a b c x y z m n h k =
    root_le (alongside a b c x y z) (m * n)
    (omega (arith, cauchy_schwarz a b c x y z, mul-le-mul {n₁ = length_squared a b c} {m₁ = length_squared x y z} {n₂ = square_of m} {m₂ = square_of n} h k))

-- THEOREM. Minkowski, for squared lengths.
pub minkowski : Minkowski
minkowski a b c x y z m n h k = omega (arith, h, k, alongside_within a b c x y z m n h k)
