-- What cell.rs computes of a lattice and a vector, beside the matrix: one definition for each function, in the source's order, on every float. Definitions only.
use Rattle.std.specs.Prelude.{None, Option, Some}
use Rattle.std.specs.Prelude.{Float, Bool, true, false, cond, ◌||◌}
use Rattle.std.specs.Float.{inf}
use Rattle.std.specs.Float.Ieee.{lt, le}
use Rattle.float.specs.Literals.{tiny}
use Rattle.float.specs.Arith.{◌⊕◌, ◌⊘◌, bits}
use Rattle.float.specs.Def.{abs_of, rem_euclid_of}
use Rattle.cell_axis.specs.Image.{axis_of, fraction_of}
use Rattle.cell.specs.Vec.{cross_of, norm_of}
use Rattle.cell.specs.Matrix.{matrix_of, volume_of, singular_of, inverse_of, times_of}
use Rattle.cell.specs.declared.Vec3.{Vec3}
use Rattle.cell.specs.declared.Lattice.{Lattice}
use Rattle.cell.specs.declared.Image.{Image}
use Rattle.cell.specs.declared.Triple.{Triple}
use Rattle.cell.specs.declared.Uncounted.{Uncounted}
use Rattle.cell.specs.declared.Uncounted.TheVariants.{NoInverse}
use Rattle.std.specs.Prelude.{Result, Ok, Err}
use Rattle.cell.specs.Boxes.{rounded_of, counted_of, no_boxes}

-- 1, and 1e-9
abbrev pub one : Float
one = bits 0x3ff0_0000_0000_0000

abbrev pub nano : Float
nano = bits 0x3e11_2e0b_e826_d695

-- `orthorhombic` (20-27)
unfoldable pub orthorhombic_of : Float → Float → Float → Lattice
orthorhombic_of lx ly lz =
    record {
      a = record { x = lx; y = bits 0; z = bits 0 };
      b = record { x = bits 0; y = ly; z = bits 0 };
      c = record { x = bits 0; y = bits 0; z = lz };
      px = true;
      py = true;
      pz = true;
    }

-- `cubic` (30-32)
unfoldable pub cubic_of : Float → Lattice
cubic_of l = orthorhombic_of l l l

-- the sum of the six off-diagonal magnitudes (36-41, and again 200-201)
unfoldable pub off_diagonal_of : Lattice → Float
off_diagonal_of l = abs_of l.a.y ⊕ abs_of l.a.z ⊕ abs_of l.b.x ⊕ abs_of l.b.z ⊕ abs_of l.c.x ⊕ abs_of l.c.y

-- `is_orthorhombic` (35-43)
unfoldable pub is_orthorhombic_of : Lattice → Bool
is_orthorhombic_of l = lt (off_diagonal_of l) nano

-- `to_fractional` (96-101)
unfoldable pub to_fractional_of : Lattice → Vec3 → Vec3
to_fractional_of l r = cond (singular_of l) r (times_of (inverse_of l) r)

-- `to_cartesian` (104-106)
unfoldable pub to_cartesian_of : Lattice → Vec3 → Vec3
to_cartesian_of l s = times_of (matrix_of l) s

-- one axis of `wrap` (120-126)
abbrev pub below_one : Float → Float
below_one s = cond (le one s) (bits 0) s

unfoldable pub wrap_axis_of : Bool → Float → Float
wrap_axis_of p s = cond p (below_one (rem_euclid_of s one)) s

unfoldable pub wrap_fraction_of : Lattice → Vec3 → Vec3
wrap_fraction_of l s = record { x = wrap_axis_of l.px s.x; y = wrap_axis_of l.py s.y; z = wrap_axis_of l.pz s.z }

-- `wrap` (114-129)
unfoldable pub wrap_of : Lattice → Vec3 → Vec3
wrap_of l r = cond (singular_of l) r (to_cartesian_of l (wrap_fraction_of l (to_fractional_of l r)))

-- one width of `perp_widths` (137-144): infinite where the area of the face is at most 1e-12
unfoldable pub width_of : Float → Vec3 → Vec3 → Float
width_of v a b = cond (lt tiny (norm_of (cross_of a b))) (v ⊘ norm_of (cross_of a b)) (inf false)

-- `perp_widths` (134-148)
unfoldable pub perp_widths_of : Lattice → Vec3
perp_widths_of l =
    record {
      x = width_of (abs_of (volume_of l)) l.b l.c;
      y = width_of (abs_of (volume_of l)) l.c l.a;
      z = width_of (abs_of (volume_of l)) l.a l.b;
    }

-- one axis of the general way (266-267)
unfoldable pub round_axis_of : Bool → Float → Float
round_axis_of p s = cond p (fraction_of s) s

unfoldable pub round_fraction_of : Lattice → Vec3 → Vec3
round_fraction_of l s = record { x = round_axis_of l.px s.x; y = round_axis_of l.py s.y; z = round_axis_of l.pz s.z }

-- `min_image_general` (222-275)
unfoldable pub general_image_of : Lattice → Vec3 → Vec3
general_image_of l d = cond (singular_of l) d (times_of (matrix_of l) (round_fraction_of l (times_of (inverse_of l) d)))

-- the orthorhombic way of `min_image` (208-215)
unfoldable pub box_image_of : Lattice → Vec3 → Vec3
box_image_of l d = record { x = axis_of l.px l.a.x d.x; y = axis_of l.py l.b.y d.y; z = axis_of l.pz l.c.z d.z }

-- when `min_image` goes the general way (202)
unfoldable pub skewed_of : Lattice → Bool
skewed_of l = lt nano (off_diagonal_of l) || le l.a.x (bits 0) || le l.b.y (bits 0) || le l.c.z (bits 0)

unfoldable pub lattice_image_of : Lattice → Vec3 → Vec3
lattice_image_of l d = cond (skewed_of l) (general_image_of l d) (box_image_of l d)

-- The counts (02, No. 2): of the fractions on the general way, or the word that there is no inverse; of the quotients in a box.
abbrev pub boxes_of : Lattice → Vec3 → Result Triple Uncounted
boxes_of l q = counted_of (rounded_of l.px q.x) (rounded_of l.py q.y) (rounded_of l.pz q.z)

abbrev pub quotients_of : Lattice → Vec3 → Vec3
quotients_of l d = record { x = d.x ⊘ l.a.x; y = d.y ⊘ l.b.y; z = d.z ⊘ l.c.z }

unfoldable pub lattice_boxes_of : Lattice → Vec3 → Result Triple Uncounted
lattice_boxes_of l d = cond (skewed_of l) (cond (singular_of l) (Err NoInverse) (boxes_of l (times_of (inverse_of l) d))) (boxes_of l (quotients_of l d))

-- `min_image` (195-216), and the boxes that it took off
unfoldable pub image_of : Vec3 → Option Lattice → Image
image_of d None = record { diff = d; counts = no_boxes }
image_of d (Some l) = record { diff = lattice_image_of l d; counts = lattice_boxes_of l d }
