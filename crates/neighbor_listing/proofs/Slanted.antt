-- What the bounds of a part say of all differences with an atom in a tilted cell (`slant-reach`): the least and the greatest fractions have one step, and the
-- images of what lies between them are no nearer than the ends say. Assumes nothing.
use mathlib.Core.Path.{◌≡◌, refl, sym, ap, ◌∙◌}
use mathlib.Core.Bool.{Bool, true, false, cond, not, ◌&&◌, false≢true}
use borrow.Author.Tests.{not-true}
use lib.Dec.{T}
use lib.Ieee.{Float, le, of_bits}
use lib.Ieee.Scale.{finite}
use Rattle.float.specs.Arith.{◌⊕◌, ◌⊖◌}
use Rattle.float.proofs.Branches.{both_true, yes}
use Rattle.cell_axis.specs.Image.{near_axis_of}
use Rattle.cell_square.specs.Square.{steady_of, step_of, calm_of, nearer_of}
use Rattle.cell_square.proofs.Keeps.{Amid, difference_amid, sub_finite, between_finite}
use Rattle.cell_square.proofs.Opposite.{opposite_sub}
use Rattle.cell_square.proofs.Zeros.{stepped_finite}
use Rattle.cell_square.proofs.Between.{Settled, settled, calmed, small_ends, small_finite}
use Rattle.cell_square.proofs.Least.{Gapped, steps_finite, sums_keep}
use Rattle.cell_square.proofs.Spread.{add_finite, step_amid, sum_amid, sum_ends, low_fits, high_fits, nearer_law}
use Rattle.cell.specs.declared.Vec3.{Vec3}
use Rattle.cell.specs.declared.Lattice.{Lattice}
use Rattle.cell.specs.Vec.{zero_vec, sub_of, add_of, dot_of, norm2_of}
use Rattle.cell.specs.Matrix.{matrix_of, times_of}
use Rattle.cell_prepared.specs.Facts.{huge}
use Rattle.neighbor_listing.specs.declared.sight.Sight.{Sight}
use Rattle.neighbor_listing.specs.declared.side.Bounds.{Bounds}
use Rattle.neighbor_listing.specs.declared.side.Reach.{Reach}
use Rattle.neighbor_listing.specs.Sides.{turned, sees_apart, Enclosed, fractions_of, is_tilted, tilted_holds, low_by, high_by, least_rows, greatest_rows, least_fractions, greatest_fractions, is_slanted, whole_step, is_level, FitEnds, SlantSays, least_image, greatest_image, are_finite, nearer_in, is_outside, slanted_sees, is_upper, upper_sees, slope_sees, ReachSays}
use Rattle.neighbor_listing.proofs.Uppers.{upper_is}
use Rattle.neighbor_listing.proofs.Shortcuts.{one, one_fits, one_below, dot_fits, tilted_seen, tilted_back}

one_whole : T (finite one)
unfolding of_bits
one_whole = tt

-- ---- three numbers, each between two
pub record Amidst (l v h : Vec3) : Type 0 where
  pub x : Amid l.x v.x h.x
  pub y : Amid l.y v.y h.y
  pub z : Amid l.z v.z h.z

dot_amid : (c l v h : Vec3) → T (finite (low_by c l h)) → T (finite (high_by c l h)) → Amidst l v h → Amid (low_by c l h) (dot_of c v) (high_by c l h)
dot_amid c l v h u w a = sum_amid c.x c.y c.z l.x h.x l.y h.y l.z h.z u w a.x a.y a.z

-- ---- the fractions of the differences with what is within the bounds
module _ (a : Vec3) (w : Bounds) (b : Vec3) (v : Enclosed w b) where
  abbrev from : Vec3
  from = sub_of a w.hi

  abbrev to : Vec3
  to = sub_of a w.lo

  fraction_amid : (c : Vec3) → T (finite (low_by c from to)) → T (finite (high_by c from to)) → Amid (low_by c from to) (dot_of c (sub_of a b)) (high_by c from to)
  fraction_amid c p q =
      let e = sum_ends c.x c.y c.z from.x to.x from.y to.y from.z to.z p q in
      dot_amid c from (sub_of a b) to p q
      (record {
        x = difference_amid a.x b.x w.lo.x w.hi.x e.x_low e.x_high (yes v.x_low) (yes v.x_high);
        y = difference_amid a.y b.y w.lo.y w.hi.y e.y_low e.y_high (yes v.y_low) (yes v.y_high);
        z = difference_amid a.z b.z w.lo.z w.hi.z e.z_low e.z_high (yes v.z_low) (yes v.z_high);
      })

  apart_finite : (c : Vec3) → T (finite (low_by c from to)) → T (finite (high_by c from to)) → T (finite (a.x ⊖ b.x)) × T (finite (a.y ⊖ b.y))
  apart_finite c p q =
      let e = sum_ends c.x c.y c.z from.x to.x from.y to.y from.z to.z p q in
      let x = difference_amid a.x b.x w.lo.x w.hi.x e.x_low e.x_high (yes v.x_low) (yes v.x_high) in
      let y = difference_amid a.y b.y w.lo.y w.hi.y e.y_low e.y_high (yes v.y_low) (yes v.y_high) in
      (between_finite from.x (a.x ⊖ b.x) to.x e.x_low e.x_high x.low x.high, between_finite from.y (a.y ⊖ b.y) to.y e.y_low e.y_high y.low y.high)

  -- on one axis, of one step
  pub record Axis (c : Vec3) : Type 0 where
    pub low : T (finite (low_by c from to))
    pub high : T (finite (high_by c from to))
    pub amid : Amid (low_by c from to) (dot_of c (sub_of a b)) (high_by c from to)
    pub settles : Settled one (dot_of c (sub_of a b)) (step_of one (low_by c from to) (high_by c from to))

  axis_is : (c : Vec3) → steady_of one (low_by c from to) (high_by c from to) ≡ true → Axis c
  axis_is c h =
      let l = low_by c from to in
      let g = high_by c from to in
      let e = small_ends one l g h in
      let p = small_finite l one e.low in
      let q = small_finite g one e.high in
      let m = fraction_amid c p q in
      record {
        low = p;
        high = q;
        amid = m;
        settles =
            settled one l (dot_of c (sub_of a b)) g one_fits
            (low_fits c.x c.y c.z from.x to.x from.y to.y from.z to.z)
            (dot_fits c (sub_of a b))
            (high_fits c.x c.y c.z from.x to.x from.y to.y from.z to.z)
            one_below m.low m.high h;
      }

-- ---- the images of fractions from low up to high
six_finite : (low high : Vec3) → are_finite low high ≡ true → (T (finite low.x) × T (finite high.x)) × (T (finite low.y) × T (finite high.y)) × (T (finite low.z) × T (finite high.z))
six_finite low high h =
    let x = high.x ⊖ low.x in
    let y = high.y ⊖ low.y in
    let z = high.z ⊖ low.z in
    let p = add_finite (x ⊕ y) z (small_finite (x ⊕ y ⊕ z) huge h) in
    let q = add_finite x y p.0 in
    let u = sub_finite high.x low.x q.0 in
    let v = sub_finite high.y low.y q.1 in
    let w = sub_finite high.z low.z p.1 in
    ((u.1, u.0), (v.1, v.0), (w.1, w.0))

module _ (l : Lattice) (limit : Float) (low v high : Vec3) (a : Amidst low v high) where
  row_gapped : (c : Vec3) → T (finite (low_by c low high)) → T (finite (high_by c low high)) → Gapped (nearer_of (low_by c low high) (high_by c low high)) (dot_of c v)
  row_gapped c p q = nearer_law (low_by c low high) (dot_of c v) (high_by c low high) (dot_amid c low v high p q a)

  out_of_sight : are_finite (least_image l low high) (greatest_image l low high) ≡ true → le (norm2_of (nearer_in (least_image l low high) (greatest_image l low high))) limit ≡ false
      → le (norm2_of (times_of (matrix_of l) v)) limit ≡ false
  unfolding least_rows greatest_rows nearer_in norm2_of times_of matrix_of
  out_of_sight h e =
      let f = six_finite (least_image l low high) (greatest_image l low high) h in
      sums_keep limit
      (row_gapped (record { x = l.a.x; y = l.b.x; z = l.c.x }) f.0.0 f.0.1)
      (row_gapped (record { x = l.a.y; y = l.b.y; z = l.c.y }) f.1.0 f.1.1)
      (row_gapped (record { x = l.a.z; y = l.b.z; z = l.c.z }) f.2.0 f.2.1)
      e

-- ---- of every place within the bounds
module _ (s : Sight) (a : Vec3) (w : Bounds) where
  abbrev L : Vec3
  L = least_fractions s (sub_of a w.hi) (sub_of a w.lo)

  abbrev H : Vec3
  H = greatest_fractions s (sub_of a w.hi) (sub_of a w.lo)

  abbrev P : Vec3
  P = whole_step L H

  record Slant : Type 0 where
    sound : w.sound ≡ true
    tilted : is_tilted s ≡ true
    x : steady_of one L.x H.x ≡ true
    y : steady_of one L.y H.y ≡ true
    z : steady_of one L.z H.z ≡ true

  slant_is : is_slanted s w L H ≡ true → Slant
  unfolding is_slanted
  slant_is h =
      let X = steady_of one L.x H.x in
      let Y = steady_of one L.y H.y in
      let Z = steady_of one L.z H.z in
      let p3 = both_true (w.sound && is_tilted s && X && Y) Z h in
      let p2 = both_true (w.sound && is_tilted s && X) Y p3.0 in
      let p1 = both_true (w.sound && is_tilted s) X p2.0 in
      let p0 = both_true w.sound (is_tilted s) p1.0 in
      record { sound = p0.0; tilted = p0.1; x = p1.1; y = p2.1; z = p3.1 }

  module _ (t : Slant) (b : Vec3) (v : Enclosed w b) where
    ax : Axis a w b v s.prepared.general.ix
    unfolding least_rows greatest_rows
    ax = axis_is a w b v s.prepared.general.ix t.x

    ay : Axis a w b v s.prepared.general.iy
    unfolding least_rows greatest_rows
    ay = axis_is a w b v s.prepared.general.iy t.y

    az : Axis a w b v s.prepared.general.iz
    unfolding least_rows greatest_rows
    az = axis_is a w b v s.prepared.general.iz t.z

    abbrev F : Vec3
    F = fractions_of s (sub_of a b)

    holds : tilted_holds s (turned true a b) ≡ true
    holds = λ i. t.tilted i && (ax.settles.short i && ay.settles.short i && az.settles.short i)

    slanted_near : slanted_sees s a P b ≡ sees_apart s (turned true a b)
    unfolding slanted_sees whole_step least_rows greatest_rows near_axis_of
    slanted_near =
        sym (λ i. le (norm2_of (times_of (matrix_of s.prepared.lattice) (record { x = F.x ⊕ ax.settles.shift i; y = F.y ⊕ ay.settles.shift i; z = F.z ⊕ az.settles.shift i }))) s.limit)
        ∙ tilted_seen s a b (turned true a b) holds

    slanted_sees_lem : (rising : Bool) → slanted_sees s a P b ≡ sees_apart s (turned rising a b)
    slanted_sees_lem true = slanted_near
    slanted_sees_lem false = slanted_near ∙ tilted_back s a b holds

    near_amidst : Amidst (add_of L P) (add_of F P) (add_of H P)
    unfolding whole_step least_rows greatest_rows
    near_amidst =
        record {
          x = step_amid L.x F.x H.x P.x ax.low ax.high (steps_finite one L.x H.x one_whole) ax.amid;
          y = step_amid L.y F.y H.y P.y ay.low ay.high (steps_finite one L.y H.y one_whole) ay.amid;
          z = step_amid L.z F.z H.z P.z az.low az.high (steps_finite one L.z H.z one_whole) az.amid;
        }

    slanted_none : is_outside s (add_of L P) (add_of H P) ≡ true → slanted_sees s a P b ≡ false
    unfolding is_outside slanted_sees
    slanted_none o =
        let l = s.prepared.lattice in
        let A = least_image l (add_of L P) (add_of H P) in
        let B = greatest_image l (add_of L P) (add_of H P) in
        let q = both_true (are_finite A B) (not (le (norm2_of (nearer_in A B)) s.limit)) o in
        out_of_sight l s.limit (add_of L P) (add_of F P) (add_of H P) near_amidst q.0 (not-true (le (norm2_of (nearer_in A B)) s.limit) q.1)

    upper_sees_lem : is_upper s ≡ true → upper_sees s a P b ≡ slanted_sees s a P b
    unfolding upper_sees slanted_sees whole_step least_rows greatest_rows
    upper_sees_lem h =
        let f = apart_finite a w b v s.prepared.general.ix ax.low ax.high in
        ap (λ (q : Float). le q s.limit)
        (sym (upper_is s P (sub_of a b) (sub_of b a) (opposite_sub a.x b.x) (opposite_sub a.y b.y) (opposite_sub a.z b.z) h f.0 f.1
        (stepped_finite F.x L.x H.x ax.settles.short) (stepped_finite F.y L.y H.y ay.settles.short)))

    slope_sees_lem : (rising : Bool) → slope_sees s a P b ≡ sees_apart s (turned rising a b)
    unfolding slope_sees
    slope_sees_lem rising = go (is_upper s) refl ∙ slanted_sees_lem rising
      where
        go : (u : Bool) → is_upper s ≡ u → cond u (upper_sees s a P b) (slanted_sees s a P b) ≡ slanted_sees s a P b
        go true e = upper_sees_lem e
        go false e = refl

  slant_says : ReachSays slope_sees s a w (record { single = is_slanted s w L H; still = false; step = P; beyond = is_slanted s w L H && is_outside s (add_of L P) (add_of H P) })
  slant_says =
      record {
        sound = λ t. (slant_is t).sound;
        sees = λ t b v rising. slope_sees_lem (slant_is t) b v rising;
        only = λ t. (both_true (is_slanted s w L H) (is_outside s (add_of L P) (add_of H P)) t).0;
        none =
            λ t b v rising.
            let q = both_true (is_slanted s w L H) (is_outside s (add_of L P) (add_of H P)) t in
            let u = slant_is q.0 in
            sym (slanted_sees_lem u b v rising) ∙ slanted_none u b v q.1;
        still = λ t. absurd (false≢true t);
      }

  -- as the code has it
  pub slant_reach : {f t l h g k : Vec3} {r : Reach} {o : Bool} → f ≡ sub_of a w.hi → t ≡ sub_of a w.lo → l ≡ least_fractions s f t → h ≡ greatest_fractions s f t
      → SlantSays s w l h r → g ≡ add_of l r.step → k ≡ add_of h r.step → o ≡ is_outside s g k
      → ReachSays slope_sees s a w (record { single = r.single; still = false; step = r.step; beyond = r.single && o })
  slant_reach ef et el eh n eg ek eo = rw (eo, eg, ek, n.step, n.single, eh, el, et, ef) slant_says

-- ---- the common case: the step is nothing
pub fit_ends : (s : Sight) (f t : Vec3) {l h : Vec3} → l ≡ least_fractions s f t → h ≡ greatest_fractions s f t → FitEnds l h
unfolding least_rows greatest_rows
fit_ends s f t el eh =
    let g = s.prepared.general in
    rw (el, eh)
    (record {
      x_low = low_fits g.ix.x g.ix.y g.ix.z f.x t.x f.y t.y f.z t.z;
      x_high = high_fits g.ix.x g.ix.y g.ix.z f.x t.x f.y t.y f.z t.z;
      y_low = low_fits g.iy.x g.iy.y g.iy.z f.x t.x f.y t.y f.z t.z;
      y_high = high_fits g.iy.x g.iy.y g.iy.z f.x t.x f.y t.y f.z t.z;
      z_low = low_fits g.iz.x g.iz.y g.iz.z f.x t.x f.y t.y f.z t.z;
      z_high = high_fits g.iz.x g.iz.y g.iz.z f.x t.x f.y t.y f.z t.z;
    })

pub level_says : (s : Sight) (w : Bounds) (low high : Vec3) {p : Vec3} → FitEnds low high → is_level s w low high ≡ true → p ≡ zero_vec → SlantSays s w low high (record { single = true; still = false; step = p; beyond = false })
unfolding is_level is_slanted whole_step
level_says s w low high f h e =
    let X = calm_of one low.x high.x in
    let Y = calm_of one low.y high.y in
    let Z = calm_of one low.z high.z in
    let p3 = both_true (w.sound && is_tilted s && X && Y) Z h in
    let p2 = both_true (w.sound && is_tilted s && X) Y p3.0 in
    let p1 = both_true (w.sound && is_tilted s) X p2.0 in
    let x = calmed one low.x high.x one_fits f.x_low f.x_high one_below p1.1 in
    let y = calmed one low.y high.y one_fits f.y_low f.y_high one_below p2.1 in
    let z = calmed one low.z high.z one_fits f.z_low f.z_high one_below p3.1 in
    record {
      single = λ i. sym p1.0 i && x.steady i && y.steady i && z.steady i;
      step = e ∙ sym (λ i. record { x = x.step i; y = y.step i; z = z.step i });
    }

-- ---- by which loop
pub upper_slope : (s : Sight) (a p b : Vec3) → is_upper s ≡ true → upper_sees s a p b ≡ slope_sees s a p b
unfolding slope_sees
upper_slope s a p b e = sym (ap (λ (z : Bool). cond z (upper_sees s a p b) (slanted_sees s a p b)) e)

pub slanted_slope : (s : Sight) (a p b : Vec3) → is_upper s ≡ false → slanted_sees s a p b ≡ slope_sees s a p b
unfolding slope_sees
slanted_slope s a p b e = sym (ap (λ (z : Bool). cond z (upper_sees s a p b) (slanted_sees s a p b)) e)
