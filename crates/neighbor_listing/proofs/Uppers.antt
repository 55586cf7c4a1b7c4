-- In a cell whose first vector lies along x and whose second one in the plane of x and y, the products with the matrix' and the inverse's zeros are left out
-- (`upper_is`): the squares do not see it. By differences the other way round, so that the laws of `Opposite` do. Assumes nothing.
use mathlib.Core.Path.{◌≡◌, refl, sym, ◌∙◌}
use mathlib.Core.Logic.{inl}
use mathlib.Core.Bool.{true, ◌&&◌}
use lib.Dec.{T}
use lib.Ieee.{binary64, neg, eq}
use lib.Ieee.Fits.{mul-fits}
use lib.Ieee.Scale.{finite}
use Rattle.float.specs.Arith.{◌⊕◌, ◌⊗◌, bits}
use Rattle.float.proofs.Branches.{both_true}
use Rattle.cell_square.proofs.Opposite.{Opposite, opposite_sum, opposite_product, opposite_three, opposite_square}
use Rattle.cell_square.proofs.Zeros.{null_sum, drop_zero, zero_product}
use Rattle.cell.specs.declared.Vec3.{Vec3}
use Rattle.cell.specs.declared.Lattice.{Lattice}
use Rattle.cell.specs.declared.General.{General}
use Rattle.cell.specs.Vec.{add_of, dot_of, norm2_of}
use Rattle.cell.specs.Matrix.{matrix_of, times_of}
use Rattle.neighbor_listing.specs.declared.sight.Sight.{Sight}
use Rattle.neighbor_listing.specs.Sides.{fractions_of, is_upper, upper_near, upper_image}
use Rattle.neighbor_listing.proofs.Shortcuts.{norm2_by}

-- ---- the zeros
pub record Zeros (l : Lattice) (g : General) : Type 0 where
  pub ay : eq l.a.y (bits 0) ≡ true
  pub az : eq l.a.z (bits 0) ≡ true
  pub bz : eq l.b.z (bits 0) ≡ true
  pub yx : eq g.iy.x (bits 0) ≡ true
  pub zx : eq g.iz.x (bits 0) ≡ true
  pub zy : eq g.iz.y (bits 0) ≡ true

pub zeros_are : (s : Sight) → is_upper s ≡ true → Zeros s.prepared.lattice s.prepared.general
unfolding is_upper
zeros_are s h =
    let l = s.prepared.lattice in
    let g = s.prepared.general in
    let A = eq l.a.y (bits 0) in
    let B = eq l.a.z (bits 0) in
    let C = eq l.b.z (bits 0) in
    let D = eq g.iy.x (bits 0) in
    let E = eq g.iz.x (bits 0) in
    let F = eq g.iz.y (bits 0) in
    let p5 = both_true (A && B && C && D && E) F h in
    let p4 = both_true (A && B && C && D) E p5.0 in
    let p3 = both_true (A && B && C) D p4.0 in
    let p2 = both_true (A && B) C p3.0 in
    let p1 = both_true A B p2.0 in
    record { ay = p1.0; az = p1.1; bz = p2.1; yx = p3.1; zx = p4.1; zy = p5.1 }

-- ---- three numbers and their negatives
record Opposites (u v : Vec3) : Type 0 where
  x : Opposite u.x v.x
  y : Opposite u.y v.y
  z : Opposite u.z v.z

abbrev turned_step : Vec3 → Vec3
turned_step p = record { x = neg p.x; y = neg p.y; z = neg p.z }

module _ (g : General) (p d e : Vec3) (o : Opposites d e) where
  first_fraction : Opposite (dot_of g.ix d) (dot_of g.ix e)
  first_fraction = opposite_three g.ix.x g.ix.y g.ix.z d.x d.y d.z e.x e.y e.z o.x o.y o.z

  -- the short form is its own, the other way round
  near_turned : Opposites (upper_near g p d) (upper_near g (turned_step p) e)
  near_turned =
      record {
        x = opposite_sum (dot_of g.ix d) p.x (dot_of g.ix e) (neg p.x) first_fraction (inl refl);
        y =
            opposite_sum (g.iy.y ⊗ d.y ⊕ g.iy.z ⊗ d.z) p.y (g.iy.y ⊗ e.y ⊕ g.iy.z ⊗ e.z) (neg p.y)
            (opposite_sum (g.iy.y ⊗ d.y) (g.iy.z ⊗ d.z) (g.iy.y ⊗ e.y) (g.iy.z ⊗ e.z) (opposite_product g.iy.y d.y e.y o.y) (opposite_product g.iy.z d.z e.z o.z))
            (inl refl);
        z = opposite_sum (g.iz.z ⊗ d.z) p.z (g.iz.z ⊗ e.z) (neg p.z) (opposite_product g.iz.z d.z e.z o.z) (inl refl);
      }

  -- .. and the long form's
  near_dropped : {l : Lattice} → Zeros l g → T (finite d.x) → T (finite d.y)
      → Opposites (add_of (record { x = dot_of g.ix d; y = dot_of g.iy d; z = dot_of g.iz d }) p) (upper_near g (turned_step p) e)
  near_dropped w X Y =
      record {
        x = opposite_sum (dot_of g.ix d) p.x (dot_of g.ix e) (neg p.x) first_fraction (inl refl);
        y =
            opposite_sum (dot_of g.iy d) p.y (g.iy.y ⊗ e.y ⊕ g.iy.z ⊗ e.z) (neg p.y)
            (opposite_sum (g.iy.x ⊗ d.x ⊕ g.iy.y ⊗ d.y) (g.iy.z ⊗ d.z) (g.iy.y ⊗ e.y) (g.iy.z ⊗ e.z)
            (drop_zero (zero_product g.iy.x d.x w.yx X) (mul-fits binary64 g.iy.y d.y) (opposite_product g.iy.y d.y e.y o.y))
            (opposite_product g.iy.z d.z e.z o.z))
            (inl refl);
        z =
            opposite_sum (dot_of g.iz d) p.z (g.iz.z ⊗ e.z) (neg p.z)
            (drop_zero (null_sum (zero_product g.iz.x d.x w.zx X) (zero_product g.iz.y d.y w.zy Y)) (mul-fits binary64 g.iz.z d.z) (opposite_product g.iz.z d.z e.z o.z))
            (inl refl);
      }

module _ (l : Lattice) (n m : Vec3) (o : Opposites n m) where
  first_image : Opposite (l.a.x ⊗ n.x ⊕ l.b.x ⊗ n.y ⊕ l.c.x ⊗ n.z) (l.a.x ⊗ m.x ⊕ l.b.x ⊗ m.y ⊕ l.c.x ⊗ m.z)
  first_image = opposite_three l.a.x l.b.x l.c.x n.x n.y n.z m.x m.y m.z o.x o.y o.z

  image_turned : norm2_of (upper_image l n) ≡ norm2_of (upper_image l m)
  image_turned =
      norm2_by (upper_image l n) (upper_image l m)
      (opposite_square (upper_image l n).x (upper_image l m).x first_image)
      (opposite_square (upper_image l n).y (upper_image l m).y
      (opposite_sum (l.b.y ⊗ n.y) (l.c.y ⊗ n.z) (l.b.y ⊗ m.y) (l.c.y ⊗ m.z) (opposite_product l.b.y n.y m.y o.y) (opposite_product l.c.y n.z m.z o.z)))
      (opposite_square (upper_image l n).z (upper_image l m).z (opposite_product l.c.z n.z m.z o.z))

  image_dropped : {g : General} → Zeros l g → T (finite n.x) → T (finite n.y) → norm2_of (times_of (matrix_of l) n) ≡ norm2_of (upper_image l m)
  unfolding times_of matrix_of
  image_dropped w X Y =
      norm2_by (times_of (matrix_of l) n) (upper_image l m)
      (opposite_square (times_of (matrix_of l) n).x (upper_image l m).x first_image)
      (opposite_square (times_of (matrix_of l) n).y (upper_image l m).y
      (opposite_sum (l.a.y ⊗ n.x ⊕ l.b.y ⊗ n.y) (l.c.y ⊗ n.z) (l.b.y ⊗ m.y) (l.c.y ⊗ m.z)
      (drop_zero (zero_product l.a.y n.x w.ay X) (mul-fits binary64 l.b.y n.y) (opposite_product l.b.y n.y m.y o.y))
      (opposite_product l.c.y n.z m.z o.z)))
      (opposite_square (times_of (matrix_of l) n).z (upper_image l m).z
      (drop_zero (null_sum (zero_product l.a.z n.x w.az X) (zero_product l.b.z n.y w.bz Y)) (mul-fits binary64 l.c.z n.z) (opposite_product l.c.z n.z m.z o.z)))

pub upper_is : (s : Sight) (p d e : Vec3) → Opposite d.x e.x → Opposite d.y e.y → Opposite d.z e.z → is_upper s ≡ true → T (finite d.x) → T (finite d.y)
    → T (finite (add_of (fractions_of s d) p).x) → T (finite (add_of (fractions_of s d) p).y)
    → norm2_of (times_of (matrix_of s.prepared.lattice) (add_of (fractions_of s d) p)) ≡ norm2_of (upper_image s.prepared.lattice (upper_near s.prepared.general p d))
upper_is s p d e x y z h X Y P Q =
    let w = zeros_are s h in
    let l = s.prepared.lattice in
    let g = s.prepared.general in
    let o : Opposites d e = record { x = x; y = y; z = z } in
    let m = upper_near g (turned_step p) e in
    image_dropped l (add_of (fractions_of s d) p) m (near_dropped g p d e o w X Y) w P Q
    ∙ sym (image_turned l (upper_near g p d) m (near_turned g p d e o))
