-- What ties the counts to the difference (02, No. 2: "the three whole counts that it took off"): an image with counts is the source's own expression of the difference and
-- the counts, float for float, so a path is unfolded by them. proofs/Unfolded.antt shows it of what `min_image` answers.
use Rattle.std.specs.Prelude.{None, Option, Result, Some}
use Rattle.answer.specs.declared.Refusal.{Refusal}
use Rattle.std.specs.Prelude.{◌≡◌, zero, suc, Bool, cond, ℤ, pos, negsuc, Float}
use Rattle.std.specs.Float.{fin, binary64}
use Rattle.std.specs.Float.Ieee.{of_int}
use Rattle.answer.specs.Seen.{answered, seen}
use Rattle.float.specs.Arith.{◌⊖◌, ◌⊗◌, ◌⊘◌}
use Rattle.float.specs.Def.{negative}
use Rattle.cell.specs.Matrix.{matrix_of, inverse_of, times_of}
use Rattle.cell.specs.Cell.{skewed_of}
use Rattle.cell.specs.Calls.{MinImageSays}
use Rattle.cell.specs.declared.Vec3.{Vec3}
use Rattle.cell.specs.declared.Lattice.{Lattice}
use Rattle.cell.specs.declared.Triple.{Triple}
use Rattle.cell.specs.declared.Image.{Image}
use Rattle.std.specs.Prelude.{Result, Ok, Err}

-- A count as the float that was taken off. The source rounds to -0 below 0, and takes that off: of a 0 the sign is that of q, which was rounded.
unfoldable pub float_of : Float → ℤ → Float
float_of q (pos zero) = fin (negative q) 0 (pos 0)
float_of q (pos (suc n)) = of_int binary64 (pos (suc n))
float_of q (negsuc n) = of_int binary64 (negsuc n)

-- one axis of a box, and one of the general way, less a count (cell.rs 211-212, 266-267)
unfoldable pub axis_less : Bool → Float → Float → ℤ → Float
axis_less p len x n = cond p (x ⊖ len ⊗ float_of (x ⊘ len) n) x

unfoldable pub fraction_less : Bool → Float → ℤ → Float
fraction_less p s n = cond p (s ⊖ float_of s n) s

abbrev pub box_less : Lattice → Vec3 → Triple → Vec3
box_less l d n = record { x = axis_less l.px l.a.x d.x n.x; y = axis_less l.py l.b.y d.y n.y; z = axis_less l.pz l.c.z d.z n.z }

abbrev pub fractions_less : Lattice → Vec3 → Triple → Vec3
fractions_less l s n = record { x = fraction_less l.px s.x n.x; y = fraction_less l.py s.y n.y; z = fraction_less l.pz s.z n.z }

-- the difference less as many boxes
unfoldable pub less_of : Vec3 → Option Lattice → Triple → Vec3
less_of d None n = d
less_of d (Some l) n = cond (skewed_of l) (times_of (matrix_of l) (fractions_less l (times_of (inverse_of l) d) n)) (box_less l d n)

abbrev pub Unfolds : Vec3 → Option Lattice → Image → Type 0
Unfolds d cell i = (n : Triple) → i.counts ≡ Ok n → i.diff ≡ less_of d cell n

abbrev pub MinImageUnfolds : Type 0
MinImageUnfolds = (d : Vec3) (cell : Option Lattice) (r : Result Image Refusal) (i : Image) → MinImageSays d cell r → seen r ≡ answered i → Unfolds d cell i
