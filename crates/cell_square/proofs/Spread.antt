-- Rounding keeps the order of products with one number, or turns it, by that number's sign (`product-amid`); so a sum of three products with numbers that lie
-- each between two lies between two sums of the ends' products (`sum-amid`), where those are finite. Assumes nothing.
use mathlib.Core.Path.{◌≡◌, refl, ap}
use mathlib.Core.Logic.{inl, inr}
use mathlib.Core.Bool.{Bool, true, false, cond}
use Prim.Native.Nat.{ℕ, ◌+◌, ◌-◌, ◌*◌, ◌≤◌}
use native.Mathlib.Nat.{mul-mul-mul_comm, mul-le-mul_left, mul-add, mul-pos}
use native.Mathlib.Omega.{arith}
use borrow.Author.Tests.{ltb-false}
use lib.IntN.{ℤ}
use lib.Dec.{T, eqb}
use lib.Ieee.{Float, nan, inf, fin, binary64, up, down, add, mul, lt, le, eq, fits, unlike, round}
use lib.Ieee.Fits.{down_pos, add-fits}
use lib.Ieee.Scale.{finite}
use lib.Ieee.Positive.{den, den_pos}
use Rattle.float.specs.Arith.{◌⊕◌, ◌⊗◌, bits}
use Rattle.float.proofs.Branches.{yes}
use Rattle.cell_square.specs.Square.{nearer_of, low_times, high_times, low_sum, high_sum}
use Rattle.cell_square.proofs.Keeps.{plus_of, minus_of, Before, before_self, before_of_le, le_of_before, le_through, Rounded, rounded_keeps, add_keeps, between_finite, Amid, or_first}
use Rattle.cell_square.proofs.Least.{Gapped, gapped}

-- ---- c x, rounded, of a c above 0 and of one below
less_nothing : (a b : ℕ) → a ≡ a - b * 0
less_nothing a b = omega arith

no_less : (a b : ℕ) → b * 0 ≤ a
no_less a b = omega arith

rounded_up : (k : ℕ) (g : ℤ) (x : Float) → T (finite x) → Rounded (fin false k g ⊗ x) (k * up g * plus_of x) (k * up g * minus_of x) (down g * den x)
unfolding mul
rounded_up k g nan p = absurd p
rounded_up k g (inf s) p = absurd p
rounded_up k g (fin true n d) p = inr (no_less (k * up g * (n * up d)) (k * up g), ap (λ (z : ℕ). round binary64 true z (down g * down d)) (less_nothing (k * up g * (n * up d)) (k * up g)))
rounded_up k g (fin false n d) p = inl (no_less (k * up g * (n * up d)) (k * up g), ap (λ (z : ℕ). round binary64 false z (down g * down d)) (less_nothing (k * up g * (n * up d)) (k * up g)))

rounded_down : (k : ℕ) (g : ℤ) (x : Float) → T (finite x) → Rounded (fin true k g ⊗ x) (k * up g * minus_of x) (k * up g * plus_of x) (down g * den x)
unfolding mul
rounded_down k g nan p = absurd p
rounded_down k g (inf s) p = absurd p
rounded_down k g (fin true n d) p = inl (no_less (k * up g * (n * up d)) (k * up g), ap (λ (z : ℕ). round binary64 false z (down g * down d)) (less_nothing (k * up g * (n * up d)) (k * up g)))
rounded_down k g (fin false n d) p = inr (no_less (k * up g * (n * up d)) (k * up g), ap (λ (z : ℕ). round binary64 true z (down g * down d)) (less_nothing (k * up g * (n * up d)) (k * up g)))

scaled : (n u A a v B b w : ℕ) → A * w + b * v ≤ B * v + a * w → n * A * (u * w) + n * b * (u * v) ≤ n * B * (u * v) + n * a * (u * w)
scaled n u A a v B b w h =
    omega
    (arith, mul-mul-mul_comm n A u w, mul-mul-mul_comm n b u v, mul-mul-mul_comm n B u v, mul-mul-mul_comm n a u w, mul-add (n * u) (A * w) (b * v), mul-add (n * u) (B * v) (a * w), mul-le-mul_left (n * u) h)

-- products with one number keep the order, or turn it
up_keeps : (k : ℕ) (g : ℤ) (x y : Float) → T (finite x) → T (finite y) → Before x y → T (le (fin false k g ⊗ x) (fin false k g ⊗ y))
up_keeps k g x y p q h =
    rounded_keeps (fin false k g ⊗ x) (fin false k g ⊗ y) (k * up g * plus_of x) (k * up g * minus_of x) (down g * den x) (k * up g * plus_of y) (k * up g * minus_of y) (down g * den y)
    (mul-pos (down_pos g) (den_pos x)) (mul-pos (down_pos g) (den_pos y)) (rounded_up k g x p) (rounded_up k g y q)
    (scaled (k * up g) (down g) (plus_of x) (minus_of x) (den x) (plus_of y) (minus_of y) (den y) h.is)

down_keeps : (k : ℕ) (g : ℤ) (x y : Float) → T (finite x) → T (finite y) → Before x y → T (le (fin true k g ⊗ y) (fin true k g ⊗ x))
down_keeps k g x y p q h =
    rounded_keeps (fin true k g ⊗ y) (fin true k g ⊗ x) (k * up g * minus_of y) (k * up g * plus_of y) (down g * den y) (k * up g * minus_of x) (k * up g * plus_of x) (down g * den x)
    (mul-pos (down_pos g) (den_pos y)) (mul-pos (down_pos g) (den_pos x)) (rounded_down k g y q) (rounded_down k g x p)
    (omega (arith, scaled (k * up g) (down g) (plus_of x) (minus_of x) (den x) (plus_of y) (minus_of y) (den y) h.is))

-- ---- what a test of two floats says
pub le_of_lt : (x y : Float) → lt x y ≡ true → T (le x y)
unfolding le
le_of_lt x y h = or_first (lt x y) (eq x y) (yes h)

before_of_not_lt : (x y : Float) → T (finite x) → T (finite y) → lt x y ≡ false → Before y x
unfolding lt
before_of_not_lt nan y p q h = absurd p
before_of_not_lt (inf s) y p q h = absurd p
before_of_not_lt (fin s m e) nan p q h = absurd q
before_of_not_lt (fin s m e) (inf t) p q h = absurd q
before_of_not_lt (fin true m e) (fin true n d) p q h = record { is = omega (arith, ltb-false (n * up d * down e) (m * up e * down d) h) }
before_of_not_lt (fin true m e) (fin false n d) p q h = record { is = omega (arith, ltb-false 0 (m * up e * down d + n * up d * down e) h) }
before_of_not_lt (fin false m e) (fin true n d) p q h = record { is = omega arith }
before_of_not_lt (fin false m e) (fin false n d) p q h = record { is = omega (arith, ltb-false (m * up e * down d) (n * up d * down e) h) }

le_of_not_lt : (x y : Float) → T (finite x) → T (finite y) → lt x y ≡ false → T (le y x)
le_of_not_lt x y p q h = le_of_before y x q p (before_of_not_lt x y p q h)

-- ---- what is finite
pub add_finite : (x y : Float) → T (finite (x ⊕ y)) → T (finite x) × T (finite y)
unfolding add
add_finite nan y h = absurd h
add_finite (inf s) nan h = absurd h
add_finite (inf true) (inf true) h = absurd h
add_finite (inf true) (inf false) h = absurd h
add_finite (inf false) (inf true) h = absurd h
add_finite (inf false) (inf false) h = absurd h
add_finite (inf s) (fin t n d) h = absurd h
add_finite (fin s m e) nan h = absurd h
add_finite (fin s m e) (inf t) h = absurd h
add_finite (fin s m e) (fin t n d) h = (tt, tt)

not_finite : (b t : Bool) → T (finite (cond b nan (inf t))) → ⊥
not_finite true t h = h
not_finite false t h = h

mul_finite : (x y : Float) → T (finite (x ⊗ y)) → T (finite x) × T (finite y)
unfolding mul
mul_finite nan y h = absurd h
mul_finite (inf s) nan h = absurd h
mul_finite (inf s) (inf t) h = absurd h
mul_finite (inf s) (fin t n d) h = absurd (not_finite (eqb n 0) (unlike s t) h)
mul_finite (fin s m e) nan h = absurd h
mul_finite (fin s m e) (inf t) h = absurd (not_finite (eqb m 0) (unlike s t) h)
mul_finite (fin s m e) (fin t n d) h = (tt, tt)

-- ---- two ends, in the order that a comparison gives them
module _ (p x q : Float) (P : T (finite p)) (Q : T (finite q)) where
  ends_rise : T (le p x) → T (le x q) → (b : Bool) → lt q p ≡ b → Amid (cond b q p) x (cond b p q)
  ends_rise h k true e = record { low = le_through q p x (le_of_lt q p e) h; high = le_through x q p k (le_of_lt q p e) }
  ends_rise h k false e = record { low = h; high = k }

  ends_fall : T (le q x) → T (le x p) → (b : Bool) → lt q p ≡ b → Amid (cond b q p) x (cond b p q)
  ends_fall h k true e = record { low = h; high = k }
  ends_fall h k false e = record { low = le_through p q x (le_of_not_lt q p Q P e) h; high = le_through x p q k (le_of_not_lt q p Q P e) }

-- .. they are both ends, so both are finite where both picks are
both_finite : (p q : Float) (b : Bool) → T (finite (cond b q p)) → T (finite (cond b p q)) → T (finite p) × T (finite q)
both_finite p q true h k = (k, h)
both_finite p q false h k = (h, k)

amid_signed : (c l x h : Float) → T (finite c) → T (finite l) → T (finite h) → T (finite (c ⊗ l)) → T (finite (c ⊗ h)) → Amid l x h → Amid (low_times c l h) (c ⊗ x) (high_times c l h)
amid_signed nan l x h C L H P Q a = absurd C
amid_signed (inf s) l x h C L H P Q a = absurd C
amid_signed (fin false k g) l x h C L H P Q a =
    let X = between_finite l x h L H a.low a.high in
    let c = fin false k g in
    ends_rise (c ⊗ l) (c ⊗ x) (c ⊗ h) P Q (up_keeps k g l x L X (before_of_le l x L X a.low)) (up_keeps k g x h X H (before_of_le x h X H a.high)) (lt (c ⊗ h) (c ⊗ l)) refl
amid_signed (fin true k g) l x h C L H P Q a =
    let X = between_finite l x h L H a.low a.high in
    let c = fin true k g in
    ends_fall (c ⊗ l) (c ⊗ x) (c ⊗ h) P Q (down_keeps k g x h X H (before_of_le x h X H a.high)) (down_keeps k g l x L X (before_of_le l x L X a.low)) (lt (c ⊗ h) (c ⊗ l)) refl

pub product_amid : (c l x h : Float) → T (finite (low_times c l h)) → T (finite (high_times c l h)) → Amid l x h → Amid (low_times c l h) (c ⊗ x) (high_times c l h)
product_amid c l x h u v a =
    let w = both_finite (c ⊗ l) (c ⊗ h) (lt (c ⊗ h) (c ⊗ l)) u v in
    let m = mul_finite c l w.0 in
    amid_signed c l x h m.0 m.1 (mul_finite c h w.1).1 w.0 w.1 a

-- ---- sums of what lies between finite numbers
pub add_amid : (l x h m y i : Float) → T (finite l) → T (finite h) → T (finite m) → T (finite i) → Amid l x h → Amid m y i → Amid (l ⊕ m) (x ⊕ y) (h ⊕ i)
add_amid l x h m y i L H M I a b =
    let X = between_finite l x h L H a.low a.high in
    let Y = between_finite m y i M I b.low b.high in
    record {
      low = add_keeps l m x y L M X Y (before_of_le l x L X a.low) (before_of_le m y M Y b.low);
      high = add_keeps x y h i X Y H I (before_of_le x h X H a.high) (before_of_le y i Y I b.high);
    }

-- a step for all of them
pub step_amid : (l x h s : Float) → T (finite l) → T (finite h) → T (finite s) → Amid l x h → Amid (l ⊕ s) (x ⊕ s) (h ⊕ s)
step_amid l x h s L H S a =
    let X = between_finite l x h L H a.low a.high in
    record { low = add_keeps l s x s L S X S (before_of_le l x L X a.low) (before_self s); high = add_keeps x s h s X S H S (before_of_le x h X H a.high) (before_self s) }

pub sum_amid : (a b c xl xh yl yh zl zh : Float) {x y z : Float} → T (finite (low_sum a b c xl xh yl yh zl zh)) → T (finite (high_sum a b c xl xh yl yh zl zh)) → Amid xl x xh → Amid yl y yh → Amid zl z zh
    → Amid (low_sum a b c xl xh yl yh zl zh) (a ⊗ x ⊕ b ⊗ y ⊕ c ⊗ z) (high_sum a b c xl xh yl yh zl zh)
unfolding low_sum high_sum
sum_amid a b c xl xh yl yh zl zh {x} {y} {z} u v p q r =
    let xl' = low_times a xl xh in
    let yl' = low_times b yl yh in
    let zl' = low_times c zl zh in
    let xh' = high_times a xl xh in
    let yh' = high_times b yl yh in
    let zh' = high_times c zl zh in
    let u1 = add_finite (xl' ⊕ yl') zl' u in
    let u0 = add_finite xl' yl' u1.0 in
    let v1 = add_finite (xh' ⊕ yh') zh' v in
    let v0 = add_finite xh' yh' v1.0 in
    add_amid (xl' ⊕ yl') (a ⊗ x ⊕ b ⊗ y) (xh' ⊕ yh') zl' (c ⊗ z) zh' u1.0 v1.0 u1.1 v1.1
    (add_amid xl' (a ⊗ x) xh' yl' (b ⊗ y) yh' u0.0 v0.0 u0.1 v0.1 (product_amid a xl x xh u0.0 v0.0 p) (product_amid b yl y yh u0.1 v0.1 q))
    (product_amid c zl z zh u1.1 v1.1 r)

-- its ends are finite then
pub record SumEnds (xl xh yl yh zl zh : Float) : Type 0 where
  pub x_low : T (finite xl)
  pub x_high : T (finite xh)
  pub y_low : T (finite yl)
  pub y_high : T (finite yh)
  pub z_low : T (finite zl)
  pub z_high : T (finite zh)

ends_of : (c l h : Float) → T (finite (low_times c l h)) → T (finite (high_times c l h)) → T (finite l) × T (finite h)
ends_of c l h u v = let w = both_finite (c ⊗ l) (c ⊗ h) (lt (c ⊗ h) (c ⊗ l)) u v in ((mul_finite c l w.0).1, (mul_finite c h w.1).1)

pub sum_ends : (a b c xl xh yl yh zl zh : Float) → T (finite (low_sum a b c xl xh yl yh zl zh)) → T (finite (high_sum a b c xl xh yl yh zl zh)) → SumEnds xl xh yl yh zl zh
unfolding low_sum high_sum
sum_ends a b c xl xh yl yh zl zh u v =
    let u1 = add_finite (low_times a xl xh ⊕ low_times b yl yh) (low_times c zl zh) u in
    let u0 = add_finite (low_times a xl xh) (low_times b yl yh) u1.0 in
    let v1 = add_finite (high_times a xl xh ⊕ high_times b yl yh) (high_times c zl zh) v in
    let v0 = add_finite (high_times a xl xh) (high_times b yl yh) v1.0 in
    let p = ends_of a xl xh u0.0 v0.0 in
    let q = ends_of b yl yh u0.1 v0.1 in
    let r = ends_of c zl zh u1.1 v1.1 in
    record { x_low = p.0; x_high = p.1; y_low = q.0; y_high = q.1; z_low = r.0; z_high = r.1 }

pub low_fits : (a b c xl xh yl yh zl zh : Float) → T (fits binary64 (low_sum a b c xl xh yl yh zl zh))
unfolding low_sum
low_fits a b c xl xh yl yh zl zh = add-fits binary64 (low_times a xl xh ⊕ low_times b yl yh) (low_times c zl zh)

pub high_fits : (a b c xl xh yl yh zl zh : Float) → T (fits binary64 (high_sum a b c xl xh yl yh zl zh))
unfolding high_sum
high_fits a b c xl xh yl yh zl zh = add-fits binary64 (high_times a xl xh ⊕ high_times b yl yh) (high_times c zl zh)

-- .. and how far from 0 it is at least
pub nearer_law : (l x h : Float) → Amid l x h → Gapped (nearer_of l h) x
nearer_law l x h a = gapped l x h a.low a.high (lt (bits 0) l) (lt h (bits 0)) refl refl
