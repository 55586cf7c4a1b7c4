-- A number of at most t, and a length above t: the number's image in the box is no further from 0 than t, by the squares (`held`). By the order, as `Keeps` of
-- cell_square has it. Assumes nothing.
use mathlib.Core.Path.{◌≡◌, refl, sym, ◌∙◌, subst}
use mathlib.Core.Bool.{Bool, true, false, cond, ◌||◌, false≢true}
use Prim.Native.Nat.{ℕ, ◌*◌, ◌≤◌}
use native.Mathlib.Nat.{mul-mul-mul_comm, mul-le-mul, mul-le-mul_right, mul-pos, le_of_eq, le_of_lt, le_trans}
use native.Mathlib.Omega.{arith}
use borrow.Author.Tests.{ltb-true}
use lib.IntN.{ℤ}
use lib.Dec.{T}
use lib.Ieee.{Float, nan, inf, fin, binary64, up, down, mul, lt, le, eq, fits, is_nan, round}
use lib.Ieee.Fits.{down_pos, sub-fits}
use lib.Ieee.Order.{round_mono}
use lib.Ieee.Scale.{finite}
use Rattle.float.specs.Def.{abs_of}
use Rattle.float.specs.Arith.{◌⊖◌}
use Rattle.float.proofs.Branches.{zero+, yes, both_true}
use Rattle.float.proofs.Fraction.{sub_at}
use Rattle.ranges.specs.Ranged.{within}
use Rattle.cell_axis.specs.Image.{nearest_of}
use Rattle.cell_square.specs.Square.{square, smaller_of}
use Rattle.cell_square.proofs.Law.{square_law}
use Rattle.cell_square.proofs.Keeps.{Before, before_of_le, le_of_before, le_through, from_zero}
use Rattle.cell_square.proofs.Least.{Gapped}
use Rattle.cell.proofs.Order.{lt_not_ge, compared}
use Rattle.cell_prepared.specs.Facts.{huge}
use Rattle.neighbor_asked.specs.Strays.{Held, RoomySays, roomy}

pub unless : (b : Bool) → (b ≡ true → ⊥) → b ≡ false
unless true n = absurd (n refl)
unless false n = refl

-- ---- from 0 up to t: the square is at most that of t
squares : (a b c d : ℕ) → a * d ≤ b * c → a * a * (d * d) ≤ b * b * (c * c)
squares a b c d h = le_trans (le_of_eq (mul-mul-mul_comm a a d d)) (le_trans (mul-le-mul h h) (le_of_eq (mul-mul-mul_comm b c b c)))

square_is : (s : Bool) (m : ℕ) (e : ℤ) → square (fin s m e) ≡ round binary64 false (m * up e * (m * up e)) (down e * down e)
unfolding mul
square_is true m e = refl
square_is false m e = refl

in_order_lem : (s r : Bool) (m n : ℕ) (e d : ℤ) → Before zero+ (fin s m e) → Before (fin s m e) (fin r n d) → m * up e * down d ≤ n * up d * down e
in_order_lem true r m n e d h k = null (m * up e) (down d) (n * up d * down e) (omega (arith, h.is))
  where
    null : (a c b : ℕ) → a ≤ 0 → a * c ≤ b
    null a c b h = omega (arith, mul-le-mul_right c h)
in_order_lem false true m n e d h k = omega (arith, k.is)
in_order_lem false false m n e d h k = omega (arith, k.is)

up_to : (y t : Float) → T (finite t) → T (le zero+ y) → T (le y t) → Gapped y t
up_to nan t f h k = absurd (unfold le in h)
up_to (inf true) t f h k = absurd (unfold le in h)
up_to (inf false) nan f h k = absurd f
up_to (inf false) (inf r) f h k = absurd f
up_to (inf false) (fin r n d) f h k = absurd (unfold le in k)
up_to (fin s m e) nan f h k = absurd f
up_to (fin s m e) (inf r) f h k = absurd f
up_to (fin s m e) (fin r n d) f h k =
    let E = mul-pos (down_pos e) (down_pos e) in
    let o = in_order_lem s r m n e d (before_of_le zero+ (fin s m e) tt tt h) (before_of_le (fin s m e) (fin r n d) tt tt k) in
    record {
      least = rw (square_is s m e) (from_zero (m * up e * (m * up e)) (down e * down e) E);
      most = rw (square_is s m e, square_is r n d) (round_mono binary64 (m * up e * (m * up e)) (down e * down e) (n * up d * (n * up d)) (down d * down d) E (mul-pos (down_pos d) (down_pos d)) (squares (m * up e) (n * up d) (down e) (down d) o));
    }

-- ---- the smaller of u and the length less it
pub le_of_below : (x y : Float) → lt x y ≡ true → T (le x y)
unfolding le
le_of_below x y h = rw h tt

module _ (m n : ℕ) (e d : ℤ) (h : m * up e * down d ≤ n * up d * down e) where
  rest_up : T (le zero+ (fin false n d ⊖ fin false m e))
  rest_up =
      subst (λ (z : Float). T (le zero+ z)) (sym (sub_at binary64 (fin false n d) (fin false m e) (n * up d) (down d) (m * up e) (down e) (down_pos d) (down_pos e) (refl, refl) (refl, refl) h))
      (from_zero _ (down d * down e) (mul-pos (down_pos d) (down_pos e)))

  smaller_up_to : (t : Float) → T (finite t) → T (le (fin false m e) t) → Gapped (smaller_of (fin false n d) (fin false m e)) t
  unfolding smaller_of
  smaller_up_to t f k = go (lt (fin false n d ⊖ fin false m e) (fin false m e)) refl
    where
      go : (b : Bool) → lt (fin false n d ⊖ fin false m e) (fin false m e) ≡ b → Gapped (cond b (fin false n d ⊖ fin false m e) (fin false m e)) t
      go true q = up_to (fin false n d ⊖ fin false m e) t f rest_up (le_through (fin false n d ⊖ fin false m e) (fin false m e) t (le_of_below (fin false n d ⊖ fin false m e) (fin false m e) q) k)
      go false q = up_to (fin false m e) t f (le_of_before zero+ (fin false m e) tt tt (record { is = omega arith })) k

-- ---- u at most t, and this below l
no_nan_left : (u t : Float) → le u t ≡ true → is_nan u ≡ false
unfolding is_nan le
no_nan_left nan t h = absurd (false≢true h)
no_nan_left (inf s) t h = refl
no_nan_left (fin s m e) t h = refl

no_nan_right : (l t : Float) → lt t l ≡ true → is_nan l ≡ false
unfolding is_nan lt
no_nan_right nan nan h = absurd (false≢true h)
no_nan_right nan (inf s) h = absurd (false≢true h)
no_nan_right nan (fin s m e) h = absurd (false≢true h)
no_nan_right (inf r) t h = refl
no_nan_right (fin r n d) t h = refl

pub not_below : (x y : Float) → is_nan x ≡ false → is_nan y ≡ false → lt y x ≡ false → T (le x y)
unfolding le
not_below x y p q h = go (lt x y) refl
  where
    go : (b : Bool) → lt x y ≡ b → T (b || eq x y)
    go true k = tt
    go false k = yes (compared x y p q k h)

pub below_through : (u t l : Float) → le u t ≡ true → lt t l ≡ true → lt u l ≡ true
below_through u t l h k = go (lt u l) refl
  where
    go : (b : Bool) → lt u l ≡ b → b ≡ true
    go true q = refl
    go false q = absurd (subst T (lt_not_ge t l k) (le_through l u t (not_below l u (no_nan_right l t k) (no_nan_left u t h) q) (yes h)))

between_numbers : (m : ℕ) (e : ℤ) (t l : Float) → T (finite l) → T (le (fin false m e) t) → lt t l ≡ true → T (finite t)
between_numbers m e nan l f h k = absurd (unfold le in h)
between_numbers m e (inf true) l f h k = absurd (unfold le in h)
between_numbers m e (inf false) nan f h k = absurd f
between_numbers m e (inf false) (inf s) f h k = absurd f
between_numbers m e (inf false) (fin s n d) f h k = absurd (false≢true (unfold lt in k))
between_numbers m e (fin s n d) l f h k = tt

-- ---- the image
by_square : (g y t : Float) → square g ≡ square y → Gapped g t → Gapped y t
by_square g y t e w = record { least = subst (λ (z : Float). T (le zero+ z)) e w.least; most = subst (λ (z : Float). T (le z (square t))) e w.most }

nothing_under : (x : Float) → lt (abs_of x) (inf true) ≡ true → ⊥
unfolding lt abs_of
nothing_under nan h = false≢true h
nothing_under (inf s) h = false≢true h
nothing_under (fin s m e) h = false≢true h

own_up_to : (m n : ℕ) (e d : ℤ) (u : Bool) (t : Float) → lt t (fin false n d) ≡ true → le (abs_of (fin u m e)) t ≡ true → lt (abs_of (fin u m e)) (fin false n d) ≡ true → Gapped (smaller_of (fin false n d) (abs_of (fin u m e))) t
unfolding abs_of lt
own_up_to m n e d u t k h s = smaller_up_to m n e d (le_of_lt (ltb-true (m * up e * down d) (n * up d * down e) s)) t (between_numbers m e t (fin false n d) tt (yes h) k) (yes h)

image_up_to : (l x t y : Float) → T (fits binary64 l) → T (fits binary64 x) → lt l y ≡ true → lt t l ≡ true → le (abs_of x) t ≡ true → lt (abs_of x) l ≡ true → Gapped (nearest_of l x) t
image_up_to nan x t y F G b k h s = absurd (false≢true (unfold lt in b))
image_up_to (inf true) x t y F G b k h s = absurd (nothing_under x s)
image_up_to (inf false) x t nan F G b k h s = absurd (false≢true (unfold lt in b))
image_up_to (inf false) x t (inf r) F G b k h s = absurd (false≢true (unfold lt in b))
image_up_to (inf false) x t (fin r m e) F G b k h s = absurd (false≢true (unfold lt in b))
image_up_to (fin r n d) nan t y F G b k h s = absurd (false≢true (unfold abs_of in unfold lt in s))
image_up_to (fin r n d) (inf u) t y F G b k h s = absurd (false≢true (unfold abs_of in unfold lt in s))
image_up_to (fin true n d) (fin u m e) t y F G b k h s = absurd (false≢true (unfold abs_of in unfold lt in s))
image_up_to (fin false n d) (fin u m e) t y F G b k h s =
    by_square (smaller_of (fin false n d) (abs_of (fin u m e))) (nearest_of (fin false n d) (fin u m e)) t (square_law (fin false n d) (fin u m e) y F G s b) (own_up_to m n e d u t k h s)

pub held : (l t a b : Float) → T (fits binary64 l) → roomy l t ≡ true → within t (a ⊖ b) ≡ true → Held l t (a ⊖ b)
unfolding within
held l t a b F r h =
    let p = both_true (lt l huge) (lt t l) r in
    let s = below_through (abs_of (a ⊖ b)) t l h p.1 in
    let g = image_up_to l (a ⊖ b) t huge F (sub-fits binary64 a b) p.0 p.1 h s in
    record { short = s; least = g.least; most = g.most }

pub roomy_says : (l t : Float) (r : Bool) → T (fits binary64 l) → r ≡ roomy l t → RoomySays l t r
roomy_says l t r F e = record { is = e; each = λ q a b h. held l t a b F (sym e ∙ q) h }
