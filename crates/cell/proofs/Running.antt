-- The running maximum by comparisons alone is the source's fold of `max_of` over magnitudes, from any number that is not negative. Assumes nothing.
use mathlib.Core.Path.{◌≡◌, refl, sym, ap, ◌∙◌, subst}
use mathlib.Core.Bool.{Bool, true, false, cond}
use lib.Ieee.{Float, nan, inf, fin, neg, lt, is_nan, of_bits}
use Rattle.float.specs.Arith.{bits}
use Rattle.float.specs.Def.{abs_of, max_of, negative}
use Rattle.cell.specs.declared.Lattice.{Lattice}
use Rattle.cell.specs.Matrix.{matrix_of, larger_of, largest_in_row, largest_of}
use Rattle.cell.specs.General.{above_of, running_of, running_in_row}
use Rattle.cell.proofs.Ways.{Up}

-- ---- `max_of` from such an m is one comparison
same_arms : {A : Type 0} (b c : Bool) (a m : A) → cond b a (cond c m m) ≡ cond b a m
same_arms true c a m = refl
same_arms false true a m = refl
same_arms false false a m = refl

max_is : (m a : Float) → Up m → max_of m a ≡ above_of m a
unfolding max_of is_nan negative lt
max_is nan a u = absurd u
max_is (inf true) a u = absurd u
max_is (fin true n d) a u = absurd u
max_is (inf false) nan u = refl
max_is (inf false) (inf s) u = same_arms (lt (inf false) (inf s)) (lt (inf s) (inf false)) (inf s) (inf false)
max_is (inf false) (fin s k e) u = same_arms (lt (inf false) (fin s k e)) (lt (fin s k e) (inf false)) (fin s k e) (inf false)
max_is (fin false n d) nan u = refl
max_is (fin false n d) (inf s) u = same_arms (lt (fin false n d) (inf s)) (lt (inf s) (fin false n d)) (inf s) (fin false n d)
max_is (fin false n d) (fin s k e) u = same_arms (lt (fin false n d) (fin s k e)) (lt (fin s k e) (fin false n d)) (fin s k e) (fin false n d)

-- ---- one step: v or its negative is the magnitude, and the other is not above m
not_above : (m v : Float) → lt m (neg v) ≡ false → lt v (neg v) ≡ false → above_of (above_of m v) (neg v) ≡ above_of m v
not_above m v h k = go (lt m v)
  where
    go : (b : Bool) → above_of (cond b v m) (neg v) ≡ cond b v m
    go true = rw k
    go false = rw h

by_magnitude : (m v : Float) → Up m → running_of m v ≡ above_of m (abs_of v)
unfolding running_of abs_of lt neg
by_magnitude nan v u = absurd u
by_magnitude (inf true) v u = absurd u
by_magnitude (fin true n d) v u = absurd u
by_magnitude (inf false) nan u = refl
by_magnitude (inf false) (inf true) u = refl
by_magnitude (inf false) (inf false) u = refl
by_magnitude (inf false) (fin true k e) u = refl
by_magnitude (inf false) (fin false k e) u = refl
by_magnitude (fin false n d) nan u = refl
by_magnitude (fin false n d) (inf true) u = refl
by_magnitude (fin false n d) (inf false) u = refl
by_magnitude (fin false n d) (fin true k e) u = refl
by_magnitude (fin false n d) (fin false k e) u = not_above (fin false n d) (fin false k e) refl refl

runs : (m v : Float) → Up m → running_of m v ≡ larger_of m v
unfolding larger_of
runs m v u = by_magnitude m v u ∙ sym (max_is m (abs_of v) u)

-- ---- and what it gives is such a number again
up_both : (b : Bool) (a m : Float) → Up a → Up m → Up (cond b a m)
up_both true a m u w = u
up_both false a m u w = w

up_above : (m v : Float) → Up m → Up (above_of m (abs_of v))
unfolding abs_of lt
up_above nan v u = absurd u
up_above (inf true) v u = absurd u
up_above (fin true n d) v u = absurd u
up_above (inf false) nan u = tt
up_above (fin false n d) nan u = tt
up_above (inf false) (inf s) u = tt
up_above (fin false n d) (inf s) u = tt
up_above (inf false) (fin s k e) u = tt
up_above (fin false n d) (fin s k e) u = up_both (lt (fin false n d) (fin false k e)) (fin false k e) (fin false n d) tt tt

up_larger : (m v : Float) → Up m → Up (larger_of m v)
unfolding larger_of
up_larger m v u = subst Up (sym (max_is m (abs_of v) u)) (up_above m v u)

row_is : (m x y z : Float) → Up m → running_in_row m x y z ≡ largest_in_row m x y z
unfolding running_in_row largest_in_row
row_is m x y z u =
    ap (λ (w : Float). running_of (running_of w y) z) (runs m x u)
    ∙ ap (λ (w : Float). running_of w z) (runs (larger_of m x) y (up_larger m x u))
    ∙ runs (larger_of (larger_of m x) y) z (up_larger (larger_of m x) y (up_larger m x u))

row_up : (m x y z : Float) → Up m → Up (largest_in_row m x y z)
unfolding largest_in_row
row_up m x y z u = up_larger (larger_of (larger_of m x) y) z (up_larger (larger_of m x) y (up_larger m x u))

-- ---- the nine
pub running_largest : (l : Lattice) → running_in_row (running_in_row (running_in_row (bits 0) l.a.x l.b.x l.c.x) l.a.y l.b.y l.c.y) l.a.z l.b.z l.c.z ≡ largest_of (matrix_of l)
unfolding largest_of matrix_of
running_largest l =
    let zero : Up (bits 0) = unfold of_bits in tt in
    let x = largest_in_row (bits 0) l.a.x l.b.x l.c.x in
    let y = largest_in_row x l.a.y l.b.y l.c.y in
    let ux : Up x = row_up (bits 0) l.a.x l.b.x l.c.x zero in
    ap (λ (w : Float). running_in_row (running_in_row w l.a.y l.b.y l.c.y) l.a.z l.b.z l.c.z) (row_is (bits 0) l.a.x l.b.x l.c.x zero)
    ∙ ap (λ (w : Float). running_in_row w l.a.z l.b.z l.c.z) (row_is x l.a.y l.b.y l.c.y ux)
    ∙ row_is y l.a.z l.b.z l.c.z (row_up x l.a.y l.b.y l.c.y ux)
