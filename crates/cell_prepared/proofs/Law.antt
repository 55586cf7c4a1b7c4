-- The minimum image by a cell's prepared facts is the minimum image in the cell (`prepared-image`), and the short way is what `diffIn` says (`short-way`). Assumes nothing.
use Rattle.std.specs.Prelude.{None, Option, Some}
use mathlib.Core.Path.{◌≡◌, refl, ap, ◌∙◌}
use mathlib.Core.Bool.{Bool, true, false, not, cond, ◌&&◌}
use lib.Ieee.{Float, nan, inf, fin, lt, of_bits}
use borrow.Author.Tests.{not-true}
use Rattle.float.proofs.Branches.{both_true}
use Rattle.float.specs.Arith.{bits}
use Rattle.float.specs.Def.{abs_of}
use Rattle.float.proofs.Whole.{pos_not_below}
use Rattle.cell_axis.specs.Image.{nearest_of, axis_of, NearSays, near_axis_of}
use Rattle.cell_axis.proofs.Law.{bounded}
use Rattle.cell.specs.Vec.{zero_vec}
use Rattle.cell.specs.Cell.{box_image_of, skewed_of, lattice_image_of, image_of}
use Rattle.cell.specs.General.{general_of, general_by, image_by, boxes_by}
use Rattle.cell.proofs.Way.{image_by_lem, boxes_by_lem}
use Rattle.cell.specs.declared.Vec3.{Vec3}
use Rattle.cell.specs.declared.Lattice.{Lattice}
use Rattle.cell.specs.declared.Image.{Image}
use Rattle.cell_prepared.specs.declared.Prepared.{Prepared}
use Rattle.cell_prepared.specs.Facts.{huge, is_box, lengths, short_of, prepare_of, short_axis, is_short, short_image, diff_in, image_in}

either : {A : Type 0} {x y z : A} (t : Bool) → x ≡ z → y ≡ z → cond t x y ≡ z
either true p q = p
either false p q = q

-- ---- zeros: nothing is short
abs_not_below : (x : Float) → lt (abs_of x) (bits 0) ≡ false
abs_not_below nan = unfold abs_of in unfold lt in refl
abs_not_below (inf s) = unfold abs_of in unfold lt in unfold of_bits in refl
abs_not_below (fin s m e) = unfold abs_of in unfold of_bits in pos_not_below m e

never_short : (d : Vec3) → is_short zero_vec d ≡ false
never_short d = rw (abs_not_below d.x)

-- ---- a box: the short way is the source's on each axis
pub record Box (l : Lattice) : Type 0 where
  pub straight : skewed_of l ≡ false
  pub px : l.px ≡ true
  pub py : l.py ≡ true
  pub pz : l.pz ≡ true
  pub lx : lt l.a.x huge ≡ true
  pub ly : lt l.b.y huge ≡ true
  pub lz : lt l.c.z huge ≡ true

box_of : (l : Lattice) → is_box l ≡ true → Box l
box_of l h =
    let ends = lt l.a.x huge && lt l.b.y huge && lt l.c.z huge in
    let p4 = both_true (not (skewed_of l) && l.px && l.py && l.pz) ends h in
    let p3 = both_true (not (skewed_of l) && l.px && l.py) l.pz p4.0 in
    let p2 = both_true (not (skewed_of l) && l.px) l.py p3.0 in
    let p1 = both_true (not (skewed_of l)) l.px p2.0 in
    let q2 = both_true (lt l.a.x huge && lt l.b.y huge) (lt l.c.z huge) p4.1 in
    let q1 = both_true (lt l.a.x huge) (lt l.b.y huge) q2.0 in
    record { straight = not-true (skewed_of l) p1.0; px = p1.1; py = p2.1; pz = p3.1; lx = q1.0; ly = q1.1; lz = q2.1 }

axis_on : (p : Bool) (len x : Float) → p ≡ true → lt len huge ≡ true → short_axis len x ≡ axis_of p len x
unfolding short_axis axis_of
axis_on p len x h k = rw (h, bounded len huge k)

short_box : (l : Lattice) (d : Vec3) → Box l → short_image (lengths l) d ≡ lattice_image_of l d
unfolding lattice_image_of box_image_of
short_box l d b =
    rw b.straight (λ i. record {
      x = axis_on l.px l.a.x d.x b.px b.lx i;
      y = axis_on l.py l.b.y d.y b.py b.ly i;
      z = axis_on l.pz l.c.z d.z b.pz b.lz i;
    })

-- ---- the law
by_short : (l : Lattice) (d : Vec3) (b : Bool) → is_box l ≡ b
    → cond (is_short (cond b (lengths l) zero_vec) d) (short_image (cond b (lengths l) zero_vec) d) (image_by l (general_of l) d) ≡ lattice_image_of l d
by_short l d true h = either (is_short (lengths l) d) (short_box l d (box_of l h)) (image_by_lem l d)
by_short l d false h = rw (never_short d) (image_by_lem l d)

lattice_law : (l : Lattice) (d : Vec3) → cond (is_short (short_of l) d) (short_image (short_of l) d) (image_by l (general_of l) d) ≡ lattice_image_of l d
unfolding short_of
lattice_law l d = by_short l d (is_box l) refl

pub prepared_image : (cell : Option Lattice) (d : Vec3) → image_in (prepare_of cell) d ≡ image_of d cell
unfolding prepare_of diff_in image_in image_of image_by general_by boxes_by
prepared_image None d = rw (never_short d)
prepared_image (Some l) d = λ i. record { diff = lattice_law l d i; counts = boxes_by_lem l d i }

-- as functions: what is made of the images of many differences may be read either way
pub prepared_all : (cell : Option Lattice) → ◌≡◌ {A = Vec3 → Image} (λ d. image_in (prepare_of cell) d) (λ d. image_of d cell)
prepared_all cell = λ i d. prepared_image cell d i

-- ---- the short way, as the code has it: a is the magnitude of x, r the answer of `near`
pub near_axis : (a len x r : Float) → a ≡ abs_of x → lt a len ≡ true → NearSays a len x r → r ≡ short_axis len x
unfolding short_axis
near_axis a len x r A h n = go (lt len (inf false)) refl
  where
    go : (b : Bool) → lt len (inf false) ≡ b → r ≡ cond b (nearest_of len x) (near_axis_of (abs_of x) len x)
    go true e = n.formula A h e
    go false e = n.is ∙ ap (λ (z : Float). near_axis_of z len x) A

pub short_way : (s d : Vec3) {a b c u v w : Float} → is_short s d ≡ true → a ≡ abs_of d.x → b ≡ abs_of d.y → c ≡ abs_of d.z
    → NearSays a s.x d.x u → NearSays b s.y d.y v → NearSays c s.z d.z w
    → record { x = u; y = v; z = w } ≡ short_image s d
short_way s d {a} {b} {c} {u} {v} {w} h A B C nx ny nz =
    let p2 = both_true (lt (abs_of d.x) s.x && lt (abs_of d.y) s.y) (lt (abs_of d.z) s.z) h in
    let p1 = both_true (lt (abs_of d.x) s.x) (lt (abs_of d.y) s.y) p2.0 in
    λ i. record {
      x = near_axis a s.x d.x u A (rw A p1.0) nx i;
      y = near_axis b s.y d.y v B (rw B p1.1) ny i;
      z = near_axis c s.z d.z w C (rw C p2.1) nz i;
    }

-- ---- where there is no cell
pub free_way : (p : Prepared) (d : Vec3) → is_short p.short d ≡ false → p.general.skewed && p.general.singular ≡ true → d ≡ diff_in p d
unfolding diff_in image_by general_by
free_way p d far free = let f = both_true p.general.skewed p.general.singular free in rw (far, f.0, f.1)
