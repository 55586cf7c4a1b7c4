-- One axis of the minimum image, in the source's order (cell.rs, `min_image` and `min_image_general`). Definitions only.
use Rattle.std.specs.Prelude.{◌≡◌, Bool, true, false, cond, ◌&&◌, Float}
use Rattle.std.specs.Float.{inf}
use Rattle.std.specs.Float.Ieee.{neg, lt, le}
use Rattle.float.specs.Def.{abs_of, round_of}
use Rattle.float.specs.Arith.{◌⊕◌, ◌⊖◌, ◌⊗◌, ◌⊘◌, bits}

-- `out[k] -= l * (out[k] / l).round()` (cell.rs 212)
unfoldable pub nearest_of : Float → Float → Float
nearest_of len x = x ⊖ len ⊗ round_of (x ⊘ len)

-- .. where the axis is periodic (cell.rs 211)
unfoldable pub axis_of : Bool → Float → Float → Float
axis_of p len x = cond p (nearest_of len x) x

-- `*sk -= sk.round()` (cell.rs 267)
unfoldable pub fraction_of : Float → Float
fraction_of x = x ⊖ round_of x

-- l with the sign that brings x toward 0
abbrev pub toward_of : Float → Float → Float
toward_of x l = cond (le x (bits 0)) l (neg l)

-- The short way: what is added to an x of magnitude a below len, and the sum.
unfoldable pub shift_of : Float → Float → Float → Float
shift_of a len x = cond (lt (a ⊕ a) len) (bits 0) (toward_of x len)

unfoldable pub near_axis_of : Float → Float → Float → Float
near_axis_of a len x = x ⊕ shift_of a len x

-- .. and what it is for: with a the magnitude of x, below len, and len no infinity, it is the formula.
pub record NearSays (a len x r : Float) : Type 0 where
  pub is : r ≡ near_axis_of a len x
  pub formula : a ≡ abs_of x → lt a len ≡ true → lt len (inf false) ≡ true → r ≡ nearest_of len x

-- The long way: q to the nearest whole number, a half up, by 2^52 added and taken off; where it is in reach, a / len below 2^51; and the sum.
abbrev pub whole_by : Float → Float
whole_by q = q ⊕ bits 0x4330_0000_0000_0000 ⊖ bits 0x4330_0000_0000_0000

unfoldable pub steps_of : Float → Float
steps_of q = cond (lt q (whole_by q ⊕ bits 0x3fe0_0000_0000_0000)) (whole_by q) (whole_by q ⊕ bits 0x3ff0_0000_0000_0000)

unfoldable pub in_reach : Float → Float → Bool
in_reach a len = lt (bits 0) len && lt (a ⊘ len) (bits 0x4320_0000_0000_0000)

unfoldable pub far_of : Float → Float → Float → Float
far_of a len x = x ⊕ toward_of x (len ⊗ steps_of (a ⊘ len))

-- .. and what it is for: with a the magnitude of x, in reach, it is the formula, and with len 1 the general way's.
pub record FarSays (a len x r : Float) : Type 0 where
  pub is : r ≡ far_of a len x
  pub formula : a ≡ abs_of x → in_reach a len ≡ true → r ≡ nearest_of len x
