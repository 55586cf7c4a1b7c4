-- The minimum image by a lattice's own numbers is the source's, and so are the counts. Assumes nothing.
use mathlib.Core.Path.{◌≡◌, refl}
use mathlib.Core.Bool.{Bool, true, false, cond}
use Rattle.cell.specs.Matrix.{singular_of, inverse_of, times_of}
use Rattle.cell.specs.Cell.{round_fraction_of, general_image_of, box_image_of, skewed_of, lattice_image_of, boxes_of, quotients_of, lattice_boxes_of}
use Rattle.cell.specs.General.{unasked, general_of, general_by, image_by, boxes_by, as_general}
use Rattle.cell.specs.declared.Vec3.{Vec3}
use Rattle.cell.specs.declared.Lattice.{Lattice}
use Rattle.cell.specs.declared.Uncounted.TheVariants.{NoInverse}
use Rattle.std.specs.Prelude.{Result, Ok, Err}

by_way : (l : Lattice) (d : Vec3) (b : Bool) → image_by l (cond b (as_general l) unasked) d ≡ cond b (general_image_of l d) (box_image_of l d)
unfolding image_by general_by general_image_of round_fraction_of times_of
by_way l d true = refl
by_way l d false = refl

pub image_by_lem : (l : Lattice) (d : Vec3) → image_by l (general_of l) d ≡ lattice_image_of l d
unfolding general_of lattice_image_of
image_by_lem l d = by_way l d (skewed_of l)

boxes_by_way : (l : Lattice) (d : Vec3) (b : Bool)
    → boxes_by l (cond b (as_general l) unasked) d ≡ cond b (cond (singular_of l) (Err NoInverse) (boxes_of l (times_of (inverse_of l) d))) (boxes_of l (quotients_of l d))
unfolding boxes_by times_of
boxes_by_way l d true = refl
boxes_by_way l d false = refl

pub boxes_by_lem : (l : Lattice) (d : Vec3) → boxes_by l (general_of l) d ≡ lattice_boxes_of l d
unfolding general_of lattice_boxes_of
boxes_by_lem l d = boxes_by_way l d (skewed_of l)
