-- What Rust's library gives on an `f64`, and IEEE 754's square root, as functions on the values of `lib.Ieee`. Definitions only.
use Rattle.std.specs.Prelude.{ℕ, zero, suc, ◌+◌, ◌*◌, ◌/◌, ◌^◌, Bool, false, cond, pos, ◌==◌, is_nan, nat_le, Float}
use Rattle.std.specs.Float.{nan, inf, fin, binary64}
use Rattle.std.specs.Float.Ieee.{up, down, round, add, rem, lt}

-- ---- magnitude, minimum, maximum, clamp
unfoldable pub abs_of : Float → Float
abs_of nan = nan
abs_of (inf s) = inf false
abs_of (fin s m e) = fin false m e

-- the sign's bit; a nan has none
unfoldable pub negative : Float → Bool
negative nan = false
negative (inf s) = s
negative (fin s m e) = s

-- A nan is passed over. Of two zeros the maximum is the positive one, and the minimum the negative one.
unfoldable pub max_of : Float → Float → Float
unfolding negative
max_of x y = cond (is_nan x) y (cond (is_nan y) x (cond (lt x y) y (cond (lt y x) x (cond (negative x) y x))))

unfoldable pub min_of : Float → Float → Float
unfolding negative
min_of x y = cond (is_nan x) y (cond (is_nan y) x (cond (lt x y) x (cond (lt y x) y (cond (negative x) x y))))

-- Rust's two tests, in its order. (Rust panics where not lo <= hi.)
unfoldable pub clamp_of : Float → Float → Float → Float
clamp_of x lo hi = let a = cond (lt x lo) lo x in cond (lt hi a) hi a

-- ---- the remainder that is not negative
unfoldable pub rem_euclid_of : Float → Float → Float
unfolding abs_of
rem_euclid_of x y = let r = rem binary64 x y in cond (lt r (fin false 0 (pos 0))) (add binary64 r (abs_of y)) r

-- ---- to a whole number: the magnitude m * 2 ^ e is the fraction m * up e / down e. Each keeps the sign, also of a zero.
-- n with the sign s. The numbers handed to it below are values of the format already.
abbrev pub whole_of : Bool → ℕ → Float
whole_of s n = round binary64 s n 1

-- toward zero
unfoldable pub trunc_of : Float → Float
trunc_of nan = nan
trunc_of (inf s) = inf s
trunc_of (fin s m e) = whole_of s (m * up e / down e)

-- the next whole number at or above a / d
abbrev pub ceil_div : ℕ → ℕ → ℕ
ceil_div a d = cond (a / d * d == a) (a / d) (suc (a / d))

-- toward minus infinity
unfoldable pub floor_of : Float → Float
floor_of nan = nan
floor_of (inf s) = inf s
floor_of (fin s m e) = whole_of s (cond s (ceil_div (m * up e) (down e)) (m * up e / down e))

-- to the nearest, a half away from zero: the whole part of the magnitude and a half
unfoldable pub round_of : Float → Float
round_of nan = nan
round_of (inf s) = inf s
round_of (fin s m e) = whole_of s ((2 * (m * up e) + down e) / (2 * down e))

-- ---- the square root
-- the whole root of a v below 4 ^ d: that of v's digits but the last two, doubled, and one more where its square still is no more than v
unfoldable pub whole_root : ℕ → ℕ → ℕ
whole_root zero v = 0
whole_root (suc d) v = let r = 2 * whole_root d (v / 4) in cond (nat_le ((r + 1) * (r + 1)) v) (r + 1) r

-- The value nearest to the root of v / 4 ^ 600, for a v from 4 ^ 54 up and below 4 ^ 1200. Its whole root w has 55 digits or more, so no value of
-- the format, and no middle between two, lies strictly between w and w + 1: half a unit stands for the rest of the root, where there is a rest.
unfoldable pub root_scaled : ℕ → Float
unfolding whole_root
root_scaled v = let w = whole_root 1200 v in round binary64 false (2 * w + cond (w * w == v) 0 1) (2 * 2 ^ 600)

-- IEEE 754's squareRoot: -0 of -0, nan of a negative number. 4 ^ 600 times a value above zero of the format is a whole number.
unfoldable pub root_of : Float → Float
unfolding root_scaled
root_of nan = nan
root_of (inf s) = cond s nan (inf false)
root_of (fin s m e) = cond (m == 0) (fin s m e) (cond s nan (root_scaled (m * up e * 4 ^ 600 / down e)))
