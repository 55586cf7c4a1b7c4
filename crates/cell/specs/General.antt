-- What the code asks on its way: the running maximum, the images of three axes, and the general way's numbers of a lattice, asked once, with the minimum image by them.
-- Nobody has to believe that it is the source's: proofs/Running.antt shows that the running maximum is `largestOf`, proofs/Way.antt that `imageBy l (general_of l) d` is
-- `latticeImageOf l d`, and `boxesBy l (general_of l) d` is `latticeBoxesOf l d`. Definitions only.
use Rattle.std.specs.Prelude.{Float, Bool, true, false, cond, List}
use Rattle.std.specs.Float.Ieee.{neg, lt}
use Rattle.float.specs.Arith.{at, row}
use Rattle.cell_axis.specs.Image.{axis_of}
use Rattle.cell.specs.Vec.{zero_vec, dot_of}
use Rattle.cell.specs.Matrix.{matrix_of, singular_of, inverse_of, times_of}
use Rattle.cell.specs.Cell.{round_axis_of, box_image_of, skewed_of, boxes_of, quotients_of}
use Rattle.cell.specs.declared.Vec3.{Vec3}
use Rattle.cell.specs.declared.Lattice.{Lattice}
use Rattle.cell.specs.declared.General.{General}
use Rattle.cell.specs.declared.Triple.{Triple}
use Rattle.cell.specs.declared.Uncounted.{Uncounted}
use Rattle.cell.specs.declared.Uncounted.TheVariants.{NoInverse}
use Rattle.std.specs.Prelude.{Result, Ok, Err}
use Rattle.cell.specs.Boxes.{no_boxes}

-- the larger of m and v by one comparison, and of m and the magnitude of v by two
abbrev pub above_of : Float → Float → Float
above_of m v = cond (lt m v) v m

unfoldable pub running_of : Float → Float → Float
running_of m v = above_of (above_of m v) (neg v)

unfoldable pub running_in_row : Float → Float → Float → Float → Float
running_in_row m x y z = running_of (running_of (running_of m x) y) z

-- the three axes of a box, and of the general way, from floats and flags
abbrev pub box_by : Bool → Bool → Bool → Float → Float → Float → Float → Float → Float → Vec3
box_by px py pz lx ly lz dx dy dz = record { x = axis_of px lx dx; y = axis_of py ly dy; z = axis_of pz lz dz }

abbrev pub rounded_by : Bool → Bool → Bool → Float → Float → Float → Vec3
rounded_by px py pz x y z = record { x = round_axis_of px x; y = round_axis_of py y; z = round_axis_of pz z }

abbrev pub row_vec : List Float → Vec3
row_vec r = record { x = at r 0; y = at r 1; z = at r 2 }

-- of a lattice that takes the general way
abbrev pub as_general : Lattice → General
as_general l =
    record {
      skewed = true;
      singular = singular_of l;
      absent = false;
      ix = row_vec (row (inverse_of l) 0);
      iy = row_vec (row (inverse_of l) 1);
      iz = row_vec (row (inverse_of l) 2);
    }

-- of any other: nothing is asked
abbrev pub unasked : General
unasked = record { skewed = false; singular = true; absent = false; ix = zero_vec; iy = zero_vec; iz = zero_vec }

unfoldable pub general_of : Lattice → General
general_of l = cond (skewed_of l) (as_general l) unasked

unfoldable pub general_by : Lattice → General → Vec3 → Vec3
general_by l g d =
    cond g.singular d
    (times_of (matrix_of l) (rounded_by l.px l.py l.pz (dot_of g.ix d) (dot_of g.iy d) (dot_of g.iz d)))

unfoldable pub image_by : Lattice → General → Vec3 → Vec3
image_by l g d = cond g.skewed (general_by l g d) (box_image_of l d)

-- The counts by them. The numbers of no cell at all say so: the other two flags are then those of a lattice without an inverse.
unfoldable pub boxes_by : Lattice → General → Vec3 → Result Triple Uncounted
boxes_by l g d =
    cond g.skewed
    (cond g.absent no_boxes (cond g.singular (Err NoInverse) (boxes_of l (record { x = dot_of g.ix d; y = dot_of g.iy d; z = dot_of g.iz d }))))
    (boxes_of l (quotients_of l d))
