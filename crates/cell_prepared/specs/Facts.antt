-- A cell's facts, asked once for many differences, and the minimum image by them. Nobody has to believe that it is the source's: proofs/Law.antt shows that
-- `imageIn (prepare_of cell) d` is `image_of d cell`. Definitions only.
use Rattle.std.specs.Prelude.{None, Option, Some}
use Rattle.std.specs.Prelude.{◌≡◌, T, Float, Bool, true, false, not, cond, ◌&&◌}
use Rattle.std.specs.Float.{binary64, inf}
use Rattle.std.specs.Float.Ieee.{fits, lt}
use Rattle.float.specs.Arith.{◌⊕◌, bits}
use Rattle.float.specs.Def.{abs_of}
use Rattle.cell_axis.specs.Image.{nearest_of, near_axis_of}
use Rattle.cell.specs.Vec.{zero_vec}
use Rattle.cell.specs.Cell.{cubic_of, skewed_of}
use Rattle.cell.specs.General.{general_of, image_by, boxes_by}
use Rattle.cell.specs.declared.Vec3.{Vec3}
use Rattle.cell.specs.declared.Lattice.{Lattice}
use Rattle.cell.specs.declared.Image.{Image}
use Rattle.cell_prepared.specs.declared.Prepared.{Prepared}

-- 1e300: a length below it is no infinity
abbrev pub huge : Float
huge = bits 0x7e37_e43c_8800_759c

-- a box, periodic on each axis, of finite lengths
abbrev pub is_box : Lattice → Bool
is_box l = not (skewed_of l) && l.px && l.py && l.pz && (lt l.a.x huge && lt l.b.y huge && lt l.c.z huge)

abbrev pub lengths : Lattice → Vec3
lengths l = record { x = l.a.x; y = l.b.y; z = l.c.z }

-- no magnitude is below a zero, so the zeros send every difference the long way
unfoldable pub short_of : Lattice → Vec3
short_of l = cond (is_box l) (lengths l) zero_vec

unfoldable pub prepare_of : Option Lattice → Prepared
prepare_of None =
    record {
      short = zero_vec;
      lattice = cubic_of (bits 0);
      general = record { skewed = true; singular = true; absent = true; ix = zero_vec; iy = zero_vec; iz = zero_vec };
    }
prepare_of (Some l) = record { short = short_of l; lattice = l; general = general_of l }

-- one axis: the formula; of an infinite length, which no prepared cell has, what the short way gives
unfoldable pub short_axis : Float → Float → Float
short_axis len x = cond (lt len (inf false)) (nearest_of len x) (near_axis_of (abs_of x) len x)

-- less than half a length: short, and its own image but for the sign of a zero
pub record InnerSays (len x : Float) (r : Bool) : Type 0 where
  pub is : r ≡ lt (abs_of (x ⊕ x)) len
  pub short : r ≡ true → lt (abs_of x) len ≡ true
  pub image : r ≡ true → x ⊕ bits 0 ≡ short_axis len x

-- with a 0 added: a -0 becomes a 0, and nothing else changes
pub record SettledSays (x r : Float) : Type 0 where
  pub is : r ≡ x ⊕ bits 0
  pub magnitude : abs_of r ≡ abs_of x
  pub image : (len : Float) → T (fits binary64 len) → lt (abs_of x) len ≡ true → short_axis len r ≡ short_axis len x

-- each magnitude is below its length
abbrev pub is_short : Vec3 → Vec3 → Bool
is_short s d = lt (abs_of d.x) s.x && lt (abs_of d.y) s.y && lt (abs_of d.z) s.z

abbrev pub short_image : Vec3 → Vec3 → Vec3
short_image s d = record { x = short_axis s.x d.x; y = short_axis s.y d.y; z = short_axis s.z d.z }

unfoldable pub diff_in : Prepared → Vec3 → Vec3
diff_in p d = cond (is_short p.short d) (short_image p.short d) (image_by p.lattice p.general d)

unfoldable pub image_in : Prepared → Vec3 → Image
image_in p d = record { diff = diff_in p d; counts = boxes_by p.lattice p.general d }
