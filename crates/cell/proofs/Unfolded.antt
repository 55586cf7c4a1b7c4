-- An image with counts is the source's expression of the difference and the counts (specs/Unfolded.antt). Assumes nothing.
use Rattle.std.specs.Prelude.{None, Option, Some}
use mathlib.Core.Path.{◌≡◌, refl, sym, ap, ◌∙◌}
use mathlib.Core.Bool.{Bool, true, false, cond, ◌&&◌, false≢true}
use lib.Dec.{T}
use lib.Ieee.{Float, binary64, fits, to_signed}
use lib.Ieee.Fits.{add-fits, div-fits}
use Rattle.answer.specs.Seen.{Seen, answered, refused}
use Rattle.float.proofs.Branches.{both_true}
use Rattle.float.specs.Arith.{◌⊖◌, ◌⊗◌, ◌⊘◌}
use Rattle.cell_axis.specs.Image.{nearest_of, axis_of, fraction_of}
use Rattle.cell.proofs.Whole.{there_and_back}
use Rattle.cell.specs.Matrix.{matrix_of, singular_of, inverse_of, times_of}
use Rattle.cell.specs.Boxes.{rounded_of, fits_of, triple, counted_of}
use Rattle.cell.specs.Cell.{round_axis_of, round_fraction_of, general_image_of, box_image_of, skewed_of, lattice_image_of, lattice_boxes_of, boxes_of, quotients_of, image_of}
use Rattle.cell.specs.Ranged.{other_limit, vec_within, cell_in_range}
use Rattle.cell.specs.Calls.{when}
use Rattle.cell.specs.Unfolded.{axis_less, fraction_less, box_less, fractions_less, less_of, Unfolds, MinImageUnfolds}
use Rattle.cell.specs.declared.Vec3.{Vec3}
use Rattle.cell.specs.declared.Lattice.{Lattice}
use Rattle.cell.specs.declared.Triple.{Triple}
use Rattle.cell.specs.declared.Image.{Image}
use Rattle.cell.specs.declared.Uncounted.{Uncounted}
use Rattle.cell.specs.declared.Uncounted.TheVariants.{NoFit, NoInverse}
use Rattle.std.specs.Prelude.{Result, Ok, Err}

-- ---- one axis
axis_less_lem : (p : Bool) (len x : Float) → fits_of (rounded_of p (x ⊘ len)) ≡ true → axis_of p len x ≡ axis_less p len x (to_signed 31 (rounded_of p (x ⊘ len)))
unfolding axis_of axis_less rounded_of nearest_of
axis_less_lem true len x h = ap (λ (r : Float). x ⊖ len ⊗ r) (sym (there_and_back (x ⊘ len) (div-fits binary64 x len) h))
axis_less_lem false len x h = refl

fraction_less_lem : (p : Bool) (s : Float) → T (fits binary64 s) → fits_of (rounded_of p s) ≡ true → round_axis_of p s ≡ fraction_less p s (to_signed 31 (rounded_of p s))
unfolding round_axis_of fraction_less fraction_of rounded_of
fraction_less_lem true s f h = ap (λ (r : Float). s ⊖ r) (sym (there_and_back s f h))
fraction_less_lem false s f h = refl

-- ---- counts that are there are those of three numbers that fit
pub record Held (x y z : Float) (n : Triple) : Type 0 where
  pub fx : fits_of x ≡ true
  pub fy : fits_of y ≡ true
  pub fz : fits_of z ≡ true
  pub is : n ≡ triple x y z

counted_inv : Result Triple Uncounted → Triple → Triple
counted_inv (Ok m) n = m
counted_inv (Err NoFit) n = n
counted_inv (Err NoInverse) n = n

is_counted : Result Triple Uncounted → Bool
is_counted (Ok m) = true
is_counted (Err NoFit) = false
is_counted (Err NoInverse) = false

held : (x y z : Float) (n : Triple) → counted_of x y z ≡ Ok n → Held x y z n
unfolding counted_of is_counted counted_inv
held x y z n h = go (fits_of x && fits_of y && fits_of z) refl h
  where
    go : (b : Bool) → (fits_of x && fits_of y && fits_of z) ≡ b → cond b (Ok (triple x y z)) (Err NoFit) ≡ Ok n → Held x y z n
    go false e g = absurd (false≢true (ap is_counted g))
    go true e g =
        let p = both_true (fits_of x && fits_of y) (fits_of z) e in
        let q = both_true (fits_of x) (fits_of y) p.0 in
        record { fx = q.0; fy = q.1; fz = p.1; is = sym (ap (λ (b : Result Triple Uncounted). counted_inv b n) g) }

-- ---- the two ways
box_less_lem : (l : Lattice) (d : Vec3) (n : Triple) → boxes_of l (quotients_of l d) ≡ Ok n → box_image_of l d ≡ box_less l d n
unfolding box_image_of
box_less_lem l d n h =
    let k = held _ _ _ n h in
    (λ i. record {
      x = axis_less_lem l.px l.a.x d.x k.fx i;
      y = axis_less_lem l.py l.b.y d.y k.fy i;
      z = axis_less_lem l.pz l.c.z d.z k.fz i;
    })
    ∙ ap (box_less l d) (sym k.is)

fractions_less_lem : (l : Lattice) (s : Vec3) (n : Triple) → T (fits binary64 s.x) → T (fits binary64 s.y) → T (fits binary64 s.z) → boxes_of l s ≡ Ok n → round_fraction_of l s ≡ fractions_less l s n
unfolding round_fraction_of
fractions_less_lem l s n fx fy fz h =
    let k = held _ _ _ n h in
    (λ i. record {
      x = fraction_less_lem l.px s.x fx k.fx i;
      y = fraction_less_lem l.py s.y fy k.fy i;
      z = fraction_less_lem l.pz s.z fz k.fz i;
    })
    ∙ ap (fractions_less l s) (sym k.is)

fits_x : (l : Lattice) (d : Vec3) → T (fits binary64 (times_of (inverse_of l) d).x)
unfolding times_of
fits_x l d = add-fits binary64 _ _

fits_y : (l : Lattice) (d : Vec3) → T (fits binary64 (times_of (inverse_of l) d).y)
unfolding times_of
fits_y l d = add-fits binary64 _ _

fits_z : (l : Lattice) (d : Vec3) → T (fits binary64 (times_of (inverse_of l) d).z)
unfolding times_of
fits_z l d = add-fits binary64 _ _

general_less : (l : Lattice) (d : Vec3) (n : Triple) → cond (singular_of l) (Err NoInverse) (boxes_of l (times_of (inverse_of l) d)) ≡ Ok n
    → general_image_of l d ≡ times_of (matrix_of l) (fractions_less l (times_of (inverse_of l) d) n)
unfolding general_image_of is_counted
general_less l d n h = go (singular_of l) h
  where
    go : (b : Bool) → cond b (Err NoInverse) (boxes_of l (times_of (inverse_of l) d)) ≡ Ok n
        → cond b d (times_of (matrix_of l) (round_fraction_of l (times_of (inverse_of l) d))) ≡ times_of (matrix_of l) (fractions_less l (times_of (inverse_of l) d) n)
    go true g = absurd (false≢true (ap is_counted g))
    go false g = ap (times_of (matrix_of l)) (fractions_less_lem l (times_of (inverse_of l) d) n (fits_x l d) (fits_y l d) (fits_z l d) g)

pub image_unfolds : (d : Vec3) (cell : Option Lattice) → Unfolds d cell (image_of d cell)
unfolding image_of less_of lattice_image_of lattice_boxes_of
image_unfolds d None n h = refl
image_unfolds d (Some l) n h = go (skewed_of l) h
  where
    go : (b : Bool) → cond b (cond (singular_of l) (Err NoInverse) (boxes_of l (times_of (inverse_of l) d))) (boxes_of l (quotients_of l d)) ≡ Ok n
        → cond b (general_image_of l d) (box_image_of l d) ≡ cond b (times_of (matrix_of l) (fractions_less l (times_of (inverse_of l) d) n)) (box_less l d n)
    go true g = general_less l d n g
    go false g = box_less_lem l d n g

-- ---- what the call answers
answer_is : (ok : Bool) (u v : Image) → answered v ≡ when ok u → v ≡ u
answer_is true u v h = ap value h
  where
    value : Seen Image → Image
    value (answered w) = w
    value (refused k p) = u
answer_is false u v h = absurd (false≢true (sym (ap there h)))
  where
    there : Seen Image → Bool
    there (answered w) = true
    there (refused k p) = false

pub min_image_unfolds : MinImageUnfolds
min_image_unfolds d cell r i says seen n h =
    let same : i ≡ image_of d cell = answer_is (vec_within other_limit d && cell_in_range cell) (image_of d cell) i (sym seen ∙ says) in
    ap (λ (v : Image). v.diff) same ∙ image_unfolds d cell n (ap (λ (v : Image). v.counts) (sym same) ∙ h)
