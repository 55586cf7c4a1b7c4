-- Whether an atom has strayed, as the walks ask it: nobody has to believe it (`strayedOf` of neighbor is the source's). Definitions only.
use Rattle.std.specs.Prelude.{◌≡◌, Bool, true, false, not, ◌&&◌, T, pos, Float}
use Rattle.std.specs.Float.{fin}
use Rattle.std.specs.Float.Ieee.{lt, le}
use Rattle.float.specs.Arith.{◌⊖◌, bits}
use Rattle.float.specs.Def.{abs_of}
use Rattle.ranges.specs.Ranged.{within}
use Rattle.cell_axis.specs.Image.{nearest_of}
use Rattle.cell_square.specs.Square.{square}
use Rattle.cell.specs.declared.Vec3.{Vec3}
use Rattle.cell.specs.Vec.{sub_of, norm2_of}
use Rattle.cell_prepared.specs.declared.Prepared.{Prepared}
use Rattle.cell_prepared.specs.Facts.{huge, image_in}

-- whether an atom at a, referred to b, has moved further than the limit
unfoldable pub strayed : Prepared → Float → Vec3 → Vec3 → Bool
strayed p limit a b = lt limit (norm2_of (image_in p (sub_of a b)).diff)

-- a box of finite lengths l
abbrev pub bounded : Vec3 → Bool
bounded l = lt l.x huge && lt l.y huge && lt l.z huge

-- .. and two places in it that are less than a length apart on each axis
abbrev pub in_box : Vec3 → Vec3 → Vec3 → Bool
in_box l a b = bounded l && lt (abs_of (a.x ⊖ b.x)) l.x && lt (abs_of (a.y ⊖ b.y)) l.y && lt (abs_of (a.z ⊖ b.z)) l.z

-- such places, and the atom has not strayed
abbrev pub still : Prepared → Float → Vec3 → Vec3 → Bool
still p limit a b = in_box p.short a b && not (strayed p limit a b)

-- ---- without a norm: each number is at most t from its reference
-- a finite length, and t below it
abbrev pub roomy : Float → Float → Bool
roomy len t = lt len huge && lt t len

-- x is below the length, and its image is no further from 0 than t, by the squares
pub record Held (len t x : Float) : Type 0 where
  pub short : lt (abs_of x) len ≡ true
  pub least : T (le (fin false 0 (pos 0)) (square (nearest_of len x)))
  pub most : T (le (square (nearest_of len x)) (square t))

pub record RoomySays (len t : Float) (r : Bool) : Type 0 where
  pub is : r ≡ roomy len t
  pub each : r ≡ true → (a b : Float) → within t (a ⊖ b) ≡ true → Held len t (a ⊖ b)

-- t is below each length, and a displacement of t on each axis is no further than the limit
abbrev pub enough : Vec3 → Float → Float → Bool
enough l limit t = roomy l.x t && roomy l.y t && roomy l.z t && le (norm2_of (record { x = t; y = t; z = t })) limit

-- .. then an atom each of whose numbers is at most t from its reference has not strayed
pub record SmallEnough (p : Prepared) (limit t : Float) : Type 0 where
  pub each : (a b : Vec3) → within t (a.x ⊖ b.x) ≡ true → within t (a.y ⊖ b.y) ≡ true → within t (a.z ⊖ b.z) ≡ true → strayed p limit a b ≡ false

pub record EnoughSays (p : Prepared) (limit t : Float) (r : Bool) : Type 0 where
  pub is : r ≡ enough p.short limit t
  pub so : r ≡ true → SmallEnough p limit t

-- ---- in one walk with the ranges: a coordinate of at most 2^19, half of what is allowed, and at most t from its reference
abbrev pub half_entry : Float
half_entry = bits 0x4120_0000_0000_0000

abbrev pub quiet_at : Float → Float → Float → Bool
quiet_at t x r = within half_entry x && within t (x ⊖ r)
