-- What `side` is for: its square is the square of the source's image on one axis of a box. Definitions only.
use Rattle.std.specs.Prelude.{◌≡◌, Bool, true, false, cond, not, ◌&&◌, ◌||◌, Float}
use Rattle.std.specs.Float.{inf}
use Rattle.std.specs.Float.Ieee.{neg, lt, le}
use Rattle.float.specs.Def.{abs_of}
use Rattle.float.specs.Arith.{◌⊕◌, ◌⊖◌, ◌⊗◌, bits}
use Rattle.cell_axis.specs.Image.{nearest_of}

abbrev pub square : Float → Float
square x = x ⊗ x

-- the smaller of t and len less t
unfoldable pub smaller_of : Float → Float → Float
smaller_of len t = cond (lt (len ⊖ t) t) (len ⊖ t) t

-- for places less than a length apart, and a length that is no infinity: of a less b, and of b less a
pub record SideSays (len a b r : Float) : Type 0 where
  pub is : r ≡ smaller_of len (abs_of (a ⊖ b))
  pub image : (rising : Bool) → lt (abs_of (a ⊖ b)) len ≡ true → lt len (inf false) ≡ true → square r ≡ square (nearest_of len (cond rising (a ⊖ b) (b ⊖ a)))

-- ---- one step for many differences, each from low up to high
abbrev pub in_half : Float → Float → Bool
in_half len x = lt (abs_of (x ⊕ x)) len

-- all of them are less than a length, and all within a half of it, or all above that, or all below its negative
unfoldable pub steady_of : Float → Float → Float → Bool
steady_of len low high =
    lt (bits 0) len && lt (abs_of low) len && lt (abs_of high) len
    && (((in_half len low && in_half len high) || (not (in_half len low) && lt (bits 0) low)) || (not (in_half len high) && lt high (bits 0)))

-- what is added to each
unfoldable pub step_of : Float → Float → Float → Float
step_of len low high = cond (in_half len low && in_half len high) (bits 0) (cond (not (in_half len low) && lt (bits 0) low) (neg len) len)

-- .. and gives a number whose square is that of the image, of a less b and of b less a
pub record OneStep (len a b step : Float) : Type 0 where
  pub short : lt (abs_of (a ⊖ b)) len ≡ true
  pub image : (rising : Bool) → square (a ⊖ b ⊕ step) ≡ square (nearest_of len (cond rising (a ⊖ b) (b ⊖ a)))

-- the differences of a and the places from lo up to hi
pub record SteadySays (len a lo hi : Float) (r : Bool) : Type 0 where
  pub is : r ≡ steady_of len (a ⊖ hi) (a ⊖ lo)
  pub each : r ≡ true → lt len (inf false) ≡ true → (b : Float) → le lo b ≡ true → le b hi ≡ true → OneStep len a b (step_of len (a ⊖ hi) (a ⊖ lo))

-- .. of all places from c up to d and those from lo up to hi
pub record SharedSteady (len c d lo hi : Float) (r : Bool) : Type 0 where
  pub is : r ≡ steady_of len (c ⊖ hi) (d ⊖ lo)
  pub each : r ≡ true → lt len (inf false) ≡ true → (a b : Float) → le c a ≡ true → le a d ≡ true → le lo b ≡ true → le b hi ≡ true → OneStep len a b (step_of len (c ⊖ hi) (d ⊖ lo))

-- the common case, which asks less: all within a half of a length. The step is nothing then
abbrev pub calm_of : Float → Float → Float → Bool
calm_of len low high = lt (bits 0) len && in_half len low && in_half len high

pub record CalmSays (len a lo hi : Float) (r : Bool) : Type 0 where
  pub is : r ≡ calm_of len (a ⊖ hi) (a ⊖ lo)
  pub steady : r ≡ true → lt len (inf false) ≡ true → SteadySays len a lo hi true
  pub step : r ≡ true → step_of len (a ⊖ hi) (a ⊖ lo) ≡ bits 0

-- the least that what lies from low up to high can be, but for its sign: the two ends have one sign, and it is the end that is nearer to 0, or they have
-- not, and it is 0
abbrev pub nearer_of : Float → Float → Float
nearer_of low high = cond (lt (bits 0) low) low (cond (lt high (bits 0)) high (bits 0))

-- .. of such a number
unfoldable pub gap_of : Float → Float → Float → Float
gap_of step low high = nearer_of (low ⊕ step) (high ⊕ step)

-- ---- c times what lies from low up to high: the least and the greatest, by one comparison, so that they are the two ends whatever it says
abbrev pub low_times : Float → Float → Float → Float
low_times c low high = cond (lt (c ⊗ high) (c ⊗ low)) (c ⊗ high) (c ⊗ low)

abbrev pub high_times : Float → Float → Float → Float
high_times c low high = cond (lt (c ⊗ high) (c ⊗ low)) (c ⊗ low) (c ⊗ high)

-- a x + b y + c z, of x from xl up to xh, y from yl up to yh, z from zl up to zh
unfoldable pub low_sum : Float → Float → Float → Float → Float → Float → Float → Float → Float → Float
low_sum a b c xl xh yl yh zl zh = low_times a xl xh ⊕ low_times b yl yh ⊕ low_times c zl zh

unfoldable pub high_sum : Float → Float → Float → Float → Float → Float → Float → Float → Float → Float
high_sum a b c xl xh yl yh zl zh = high_times a xl xh ⊕ high_times b yl yh ⊕ high_times c zl zh
