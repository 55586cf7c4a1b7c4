-- What the loops over atoms side by side find of two atoms is what `seesOf` says of them, in a box and in a tilted cell. Assumes nothing.
use Prim.Native.Nat.{ℕ, ◌*◌, ◌≤◌, ◌<◌}
use mathlib.Core.Path.{◌≡◌, refl, sym, ap, ◌∙◌, subst}
use mathlib.Core.Bool.{Bool, true, false, cond, not, ◌&&◌, true≢false}
use native.Mathlib.Nat.{zero-mul}
use mathlib.Core.List.{List}
use native.Mathlib.Omega.{arith}
use borrow.Author.Tests.{not-true, ltb-false}
use lib.Dec.{T, ltb, ltb→lt, not_T}
use lib.ListN.{length, get_or}
use lib.IntN.{ℤ}
use lib.Ieee.{Float, nan, inf, fin, binary64, up, down, lt, le, fits, of_bits}
use lib.Ieee.Bits.{is_false}
use lib.Ieee.Fits.{add-fits, sub-fits}
use Rattle.float.specs.Arith.{◌⊕◌, ◌⊖◌, ◌⊗◌, bits, at, row}
use Rattle.float.specs.Def.{abs_of}
use Rattle.float.proofs.Branches.{both_true}
use Rattle.cell_axis.specs.Image.{nearest_of, near_axis_of, NearSays}
use Rattle.cell_axis.proofs.Law.{bounded, near_apart}
use Rattle.cell_axis.proofs.Unit.{nearest_one}
use Rattle.cell_square.specs.Square.{step_of, calm_of, gap_of, SideSays, OneStep, SteadySays, SharedSteady, CalmSays}
use Rattle.cell_square.proofs.Law.{abs_turned}
use Rattle.cell_square.proofs.Least.{Gapped, gap_law, shared_gap, sums_keep}
use Rattle.cell_square.proofs.Opposite.{Opposite, opposite_sub, opposite_three, opposite_abs, opposite_square, stepped_square, near_opposite}
use Rattle.cell_square.proofs.Between.{calm_nothing}
use Rattle.cell_square.proofs.Zeros.{still_square}
use Rattle.cell.specs.declared.Vec3.{Vec3}
use Rattle.cell.specs.Vec.{dot_of, norm2_of, position_at}
use Rattle.cell.specs.Matrix.{Matrix, matrix_of, times_row, times_of}
use Rattle.cell.specs.Cell.{round_axis_of}
use Rattle.cell.specs.General.{general_by, image_by, rounded_by}
use Rattle.cell_prepared.specs.Facts.{huge, short_axis, is_short, short_image, diff_in, image_in}
use Rattle.neighbor_listing.specs.declared.sight.Sight.{Sight}
use Rattle.neighbor_listing.specs.Steps.{sees_of}
use Rattle.neighbor_listing.specs.declared.side.Bounds.{Bounds}
use Rattle.neighbor_listing.specs.declared.side.Reach.{Reach}
use Rattle.neighbor_asked.specs.Strays.{bounded as isBounded}
use Rattle.neighbor_listing.specs.Sides.{spot_in, turned, sees_apart, box_holds, BoxSays, Enclosed, Bounded, stepped_sees, no_step, still_sees, step_in, gap_in, is_beyond, SingleSays, StillSays, SharedAt, SharedSays, Framed, Shares, ReachSays, Reaches, fractions_of, in_unit, is_tilted, tilted_holds, TiltedSays}

abbrev pub one : Float
one = bits 0x3ff0_0000_0000_0000

-- ---- three tests in one
pub record Three (a b c : Bool) : Type 0 where
  pub x : a ≡ true
  pub y : b ≡ true
  pub z : c ≡ true

three : (a b c : Bool) → a && b && c ≡ true → Three a b c
three a b c h = let p = both_true (a && b) c h in let q = both_true a b p.0 in record { x = q.0; y = q.1; z = p.1 }

-- five, of two bounds' soundness, the lengths and the axes
record Five (a f i j k : Bool) : Type 0 where
  sound : a ≡ true
  fine : f ≡ true
  x : i ≡ true
  y : j ≡ true
  z : k ≡ true

five : (a f x y z : Bool) → a && f && x && y && z ≡ true → Five a f x y z
five a f x y z h =
    let p3 = both_true (a && f && x && y) z h in
    let p2 = both_true (a && f && x) y p3.0 in
    let p1 = both_true (a && f) x p2.0 in
    let p0 = both_true a f p1.0 in
    record { sound = p0.0; fine = p0.1; x = p1.1; y = p2.1; z = p3.1 }

-- lengths that are no infinity
lengths : (l : Vec3) → isBounded l ≡ true → Three (lt l.x (inf false)) (lt l.y (inf false)) (lt l.z (inf false))
lengths l h =
    let g = three (lt l.x huge) (lt l.y huge) (lt l.z huge) h in
    record { x = bounded l.x huge g.x; y = bounded l.y huge g.y; z = bounded l.z huge g.z }

-- ---- a box
short_is : (len x : Float) → lt len huge ≡ true → short_axis len x ≡ nearest_of len x
unfolding short_axis
short_is len x h = rw (bounded len huge h)

abs_either : (rising : Bool) (a b : Float) → abs_of (cond rising (a ⊖ b) (b ⊖ a)) ≡ abs_of (a ⊖ b)
abs_either true a b = refl
abs_either false a b = sym (abs_turned a b)

pub norm2_by : (u v : Vec3) → u.x ⊗ u.x ≡ v.x ⊗ v.x → u.y ⊗ u.y ≡ v.y ⊗ v.y → u.z ⊗ u.z ≡ v.z ⊗ v.z → norm2_of u ≡ norm2_of v
unfolding norm2_of
norm2_by u v p q r = λ i. p i ⊕ q i ⊕ r i

module _ (s : Sight) (a b : Vec3) where
  abbrev l : Vec3
  l = s.prepared.short

  short_either : (rising : Bool) → Three (lt (abs_of (a.x ⊖ b.x)) l.x) (lt (abs_of (a.y ⊖ b.y)) l.y) (lt (abs_of (a.z ⊖ b.z)) l.z) → is_short l (turned rising a b) ≡ true
  short_either rising t = rw (abs_either rising a.x b.x, abs_either rising a.y b.y, abs_either rising a.z b.z, t.x, t.y, t.z)

  image_short : (d : Vec3) → is_short l d ≡ true → (image_in s.prepared d).diff ≡ short_image l d
  unfolding image_in diff_in
  image_short d h = rw h

  image_sees : (d : Vec3) → is_short l d ≡ true → le (norm2_of (short_image l d)) s.limit ≡ sees_apart s d
  unfolding sees_apart
  image_sees d h = rw (image_short d h)

  squared : (len v : Float) → lt len huge ≡ true → nearest_of len v ⊗ nearest_of len v ≡ short_axis len v ⊗ short_axis len v
  squared len v h = ap (λ (q : Float). q ⊗ q) (sym (short_is len v h))

  -- the step added to a less b
  stepped_is : (p : Vec3) → stepped_sees s a p b ≡ le (norm2_of (record { x = a.x ⊖ b.x ⊕ p.x; y = a.y ⊖ b.y ⊕ p.y; z = a.z ⊖ b.z ⊕ p.z })) s.limit
  stepped_is p =
      ap (λ (q : Float). le q s.limit)
      (norm2_by (record { x = b.x ⊖ a.x ⊖ p.x; y = b.y ⊖ a.y ⊖ p.y; z = b.z ⊖ a.z ⊖ p.z }) (record { x = a.x ⊖ b.x ⊕ p.x; y = a.y ⊖ b.y ⊕ p.y; z = a.z ⊖ b.z ⊕ p.z })
      (stepped_square a.x b.x p.x) (stepped_square a.y b.y p.y) (stepped_square a.z b.z p.z))

  -- .. and a step of nothing
  pub still_is : (q : Vec3) {p : Vec3} → p ≡ no_step → still_sees s a q b ≡ stepped_sees s a p b
  still_is q {p} e =
      ap (λ (q : Float). le q s.limit)
      (norm2_by (record { x = b.x ⊖ a.x; y = b.y ⊖ a.y; z = b.z ⊖ a.z }) (record { x = a.x ⊖ b.x ⊕ bits 0; y = a.y ⊖ b.y ⊕ bits 0; z = a.z ⊖ b.z ⊕ bits 0 })
      (axis a.x b.x) (axis a.y b.y) (axis a.z b.z))
      ∙ sym (stepped_is no_step) ∙ ap (λ (z : Vec3). stepped_sees s a z b) (sym e)
    where
      axis : (u v : Float) → (v ⊖ u) ⊗ (v ⊖ u) ≡ (u ⊖ v ⊕ bits 0) ⊗ (u ⊖ v ⊕ bits 0)
      axis u v = opposite_square (v ⊖ u) (u ⊖ v) (opposite_sub v u) ∙ sym (still_square (u ⊖ v) (sub-fits binary64 u v))

  -- one step on each axis
  pub stepped_law : (p : Vec3) → OneStep l.x a.x b.x p.x → OneStep l.y a.y b.y p.y → OneStep l.z a.z b.z p.z → isBounded l ≡ true → (rising : Bool) → stepped_sees s a p b ≡ sees_apart s (turned rising a b)
  stepped_law p nx ny nz h rising =
      let f = three (lt l.x huge) (lt l.y huge) (lt l.z huge) h in
      let d = turned rising a b in
      stepped_is p
      ∙ ap (λ (q : Float). le q s.limit)
      (norm2_by (record { x = a.x ⊖ b.x ⊕ p.x; y = a.y ⊖ b.y ⊕ p.y; z = a.z ⊖ b.z ⊕ p.z }) (short_image l d)
      (nx.image rising ∙ squared l.x d.x f.x)
      (ny.image rising ∙ squared l.y d.y f.y)
      (nz.image rising ∙ squared l.z d.z f.z))
      ∙ image_sees d (short_either rising (record { x = nx.short; y = ny.short; z = nz.short }))

  pub box_law : {x y z : Float} → SideSays l.x a.x b.x x → SideSays l.y a.y b.y y → SideSays l.z a.z b.z z → {r : Bool} → r ≡ le (norm2_of (record { x = x; y = y; z = z })) s.limit → BoxSays s a b r
  box_law {x} {y} {z} nx ny nz {r} e = record { is = go }
    where
      go : (rising : Bool) → box_holds s a b ≡ true → r ≡ sees_apart s (turned rising a b)
      go rising h =
          let p3 = both_true (isBounded l && lt (abs_of (a.x ⊖ b.x)) l.x && lt (abs_of (a.y ⊖ b.y)) l.y) (lt (abs_of (a.z ⊖ b.z)) l.z) h in
          let p2 = both_true (isBounded l && lt (abs_of (a.x ⊖ b.x)) l.x) (lt (abs_of (a.y ⊖ b.y)) l.y) p3.0 in
          let p1 = both_true (isBounded l) (lt (abs_of (a.x ⊖ b.x)) l.x) p2.0 in
          let f = three (lt l.x huge) (lt l.y huge) (lt l.z huge) p1.0 in
          let d = turned rising a b in
          e
          ∙ ap (λ (q : Float). le q s.limit)
          (norm2_by (record { x = x; y = y; z = z }) (short_image l d)
          (nx.image rising p1.1 (bounded l.x huge f.x) ∙ squared l.x d.x f.x)
          (ny.image rising p2.1 (bounded l.y huge f.y) ∙ squared l.y d.y f.y)
          (nz.image rising p3.1 (bounded l.z huge f.z) ∙ squared l.z d.z f.z))
          ∙ image_sees d (short_either rising (record { x = p1.1; y = p2.1; z = p3.1 }))

-- ---- of every place within the bounds
module _ (s : Sight) (a : Vec3) (w : Bounds) where
  abbrev L : Vec3
  L = s.prepared.short

  -- by a step on each axis, and how far the places are at least
  record Stepped (p b : Vec3) : Type 0 where
    x : OneStep L.x a.x b.x p.x
    y : OneStep L.y a.y b.y p.y
    z : OneStep L.z a.z b.z p.z
    x_gap : Gapped (gap_of p.x (a.x ⊖ w.hi.x) (a.x ⊖ w.lo.x)) (a.x ⊖ b.x ⊕ p.x)
    y_gap : Gapped (gap_of p.y (a.y ⊖ w.hi.y) (a.y ⊖ w.lo.y)) (a.y ⊖ b.y ⊕ p.y)
    z_gap : Gapped (gap_of p.z (a.z ⊖ w.hi.z) (a.z ⊖ w.lo.z)) (a.z ⊖ b.z ⊕ p.z)

  single_by : (p : Vec3) {r : Bool} → (r ≡ true → w.sound ≡ true) → (r ≡ true → isBounded L ≡ true) → (r ≡ true → (b : Vec3) → Enclosed w b → Stepped p b) → SingleSays s a p w r
  unfolding norm2_of
  single_by p {r} n f g = record { sound = n; sees = go; none = out }
    where
      go : r ≡ true → (b : Vec3) → Enclosed w b → (rising : Bool) → stepped_sees s a p b ≡ sees_apart s (turned rising a b)
      go t b v rising = let u = g t b v in stepped_law s a b p u.x u.y u.z (f t) rising

      out : r ≡ true → is_beyond s p a w ≡ true → (b : Vec3) → Enclosed w b → (rising : Bool) → sees_apart s (turned rising a b) ≡ false
      out t o b v rising =
          let u = g t b v in
          sym (go t b v rising) ∙ stepped_is s a b p ∙ sums_keep s.limit u.x_gap u.y_gap u.z_gap (not-true (le (norm2_of (gap_in p a w)) s.limit) o)

  pub single_says : {f x y z : Bool} → f ≡ isBounded L → SteadySays L.x a.x w.lo.x w.hi.x x → SteadySays L.y a.y w.lo.y w.hi.y y → SteadySays L.z a.z w.lo.z w.hi.z z
      → SingleSays s a (step_in s a w) w (w.sound && f && x && y && z)
  single_says {f} {x} {y} {z} ef nx ny nz = single_by (step_in s a w) (λ t. (five w.sound f x y z t).sound) (λ t. sym ef ∙ (five w.sound f x y z t).fine) go
    where
      go : w.sound && f && x && y && z ≡ true → (b : Vec3) → Enclosed w b → Stepped (step_in s a w) b
      go t b v =
          let p = five w.sound f x y z t in
          let g = lengths L (sym ef ∙ p.fine) in
          record {
            x = nx.each p.x g.x b.x v.x_low v.x_high;
            y = ny.each p.y g.y b.y v.y_low v.y_high;
            z = nz.each p.z g.z b.z v.z_low v.z_high;
            x_gap = gap_law L.x a.x b.x w.lo.x w.hi.x g.x v.x_low v.x_high (sym nx.is ∙ p.x);
            y_gap = gap_law L.y a.y b.y w.lo.y w.hi.y g.y v.y_low v.y_high (sym ny.is ∙ p.y);
            z_gap = gap_law L.z a.z b.z w.lo.z w.hi.z g.z v.z_low v.z_high (sym nz.is ∙ p.z);
          }

  -- the common case: the steps are nothing
  pub still_says : {f x y z : Bool} → f ≡ isBounded L → CalmSays L.x a.x w.lo.x w.hi.x x → CalmSays L.y a.y w.lo.y w.hi.y y → CalmSays L.z a.z w.lo.z w.hi.z z
      → StillSays s a w (w.sound && f && x && y && z)
  still_says {f} {x} {y} {z} ef nx ny nz = record { single = go; step = steps }
    where
      steps : w.sound && f && x && y && z ≡ true → no_step ≡ step_in s a w
      steps t = let p = five w.sound f x y z t in sym (λ i. record { x = nx.step p.x i; y = ny.step p.y i; z = nz.step p.z i })

      go : w.sound && f && x && y && z ≡ true → SingleSays s a (step_in s a w) w true
      go t =
          let p = five w.sound f x y z t in
          let g = lengths L (sym ef ∙ p.fine) in
          subst (λ (q : Bool). SingleSays s a (step_in s a w) w q) (rw (p.sound, p.fine) (refl {A = Bool} {a = true}))
          (single_says ef (nx.steady p.x g.x) (ny.steady p.y g.y) (nz.steady p.z g.z))

  pub reach_says : {x o i : Bool} {p q : Vec3} → SingleSays s a q w x → p ≡ q → o ≡ is_beyond s p a w → (i ≡ true → p ≡ no_step) → ReachSays stepped_sees s a w (record { single = x; still = i; step = p; beyond = x && o })
  reach_says {x} {o} {i} {p} n e h still =
      record {
        sound = n.sound;
        sees = λ t b v rising. ap (λ (q : Vec3). stepped_sees s a q b) e ∙ n.sees t b v rising;
        only = λ t. (both_true x o t).0;
        none = λ t b v rising. let q = both_true x o t in n.none q.0 (sym (h ∙ ap (λ (z : Vec3). is_beyond s z a w) e) ∙ q.1) b v rising;
        still = still;
      }

  -- .. by a step that is shared
  pub shared_reach : {r : Reach} {o : Bool} → SharedAt s a w r → r.single ≡ true → o ≡ is_beyond s r.step a w → ReachSays stepped_sees s a w (record { single = true; still = r.still; step = r.step; beyond = o })
  shared_reach {r} {o} n t h = reach_says (subst (λ (q : Bool). SingleSays s a r.step w q) t n.single) refl h n.still

  -- .. by any sight of one step
  module _ {see : Sight → Vec3 → Vec3 → Vec3 → Bool} {bx by bz : List Float} {k : ℕ} {r : Reach} (u : Bounded bx by bz k w) (n : ReachSays see s a w r) where
    pub none_reached : r.beyond ≡ true → (m : ℕ) → m < k → (rising : Bool) → sees_apart s (turned rising a (spot_in bx by bz m)) ≡ false
    none_reached t m h rising = n.none t (spot_in bx by bz m) (u.are (n.sound (n.only t)) m h) rising

    pub reaches : Reaches see s a bx by bz k r
    reaches = record { sees = λ t m h rising. n.sees t (spot_in bx by bz m) (u.are (n.sound t) m h) rising; still = n.still }

-- .. by a step of nothing
pub still_reaches : {s : Sight} {a : Vec3} {bx by bz : List Float} {k : ℕ} {r : Reach} → Reaches stepped_sees s a bx by bz k r → r.still ≡ true → Reaches still_sees s a bx by bz k r
still_reaches {s} {a} {bx} {by} {bz} {k} {r} n e = record { sees = λ t m h rising. still_is s a (spot_in bx by bz m) r.step (n.still e) ∙ n.sees t m h rising; still = n.still }

-- ---- of every place within the bounds of two bins
module _ (s : Sight) (v w : Bounds) where
  abbrev M : Vec3
  M = s.prepared.short

  pub shared_says : {f x y z i j k : Bool} {px py pz : Float} → f ≡ isBounded M
      → SharedSteady M.x v.lo.x v.hi.x w.lo.x w.hi.x x → SharedSteady M.y v.lo.y v.hi.y w.lo.y w.hi.y y → SharedSteady M.z v.lo.z v.hi.z w.lo.z w.hi.z z
      → px ≡ step_of M.x (v.lo.x ⊖ w.hi.x) (v.hi.x ⊖ w.lo.x) → py ≡ step_of M.y (v.lo.y ⊖ w.hi.y) (v.hi.y ⊖ w.lo.y) → pz ≡ step_of M.z (v.lo.z ⊖ w.hi.z) (v.hi.z ⊖ w.lo.z)
      → i ≡ calm_of M.x (v.lo.x ⊖ w.hi.x) (v.hi.x ⊖ w.lo.x) → j ≡ calm_of M.y (v.lo.y ⊖ w.hi.y) (v.hi.y ⊖ w.lo.y) → k ≡ calm_of M.z (v.lo.z ⊖ w.hi.z) (v.hi.z ⊖ w.lo.z)
      → SharedSays s v w (record { single = v.sound && w.sound && f && x && y && z; still = i && j && k; step = record { x = px; y = py; z = pz }; beyond = false })
  shared_says {f} {x} {y} {z} {i} {j} {k} {px} {py} {pz} ef nx ny nz ex ey ez ei ej ek =
      rw (ex, ey, ez)
      (record {
        still =
            λ t.
            let c = three i j k t in
            λ n. record {
              x = calm_nothing M.x (v.lo.x ⊖ w.hi.x) (v.hi.x ⊖ w.lo.x) (sym ei ∙ c.x) n;
              y = calm_nothing M.y (v.lo.y ⊖ w.hi.y) (v.hi.y ⊖ w.lo.y) (sym ej ∙ c.y) n;
              z = calm_nothing M.z (v.lo.z ⊖ w.hi.z) (v.hi.z ⊖ w.lo.z) (sym ek ∙ c.z) n;
            };
        sound = λ t. (both_true v.sound w.sound (five (v.sound && w.sound) f x y z t).sound).0;
        each = λ a u. single_by s a w step (λ t. (both_true v.sound w.sound (five (v.sound && w.sound) f x y z t).sound).1) (λ t. sym ef ∙ (five (v.sound && w.sound) f x y z t).fine) (go a u);
      })
    where
      step : Vec3
      step =
          record {
            x = step_of M.x (v.lo.x ⊖ w.hi.x) (v.hi.x ⊖ w.lo.x);
            y = step_of M.y (v.lo.y ⊖ w.hi.y) (v.hi.y ⊖ w.lo.y);
            z = step_of M.z (v.lo.z ⊖ w.hi.z) (v.hi.z ⊖ w.lo.z);
          }

      go : (a : Vec3) → Enclosed v a → v.sound && w.sound && f && x && y && z ≡ true → (b : Vec3) → Enclosed w b → Stepped s a w step b
      go a u t b e =
          let p = five (v.sound && w.sound) f x y z t in
          let g = lengths M (sym ef ∙ p.fine) in
          record {
            x = nx.each p.x g.x a.x b.x u.x_low u.x_high e.x_low e.x_high;
            y = ny.each p.y g.y a.y b.y u.y_low u.y_high e.y_low e.y_high;
            z = nz.each p.z g.z a.z b.z u.z_low u.z_high e.z_low e.z_high;
            x_gap = shared_gap M.x v.lo.x a.x v.hi.x w.lo.x b.x w.hi.x g.x u.x_low u.x_high e.x_low e.x_high (sym nx.is ∙ p.x);
            y_gap = shared_gap M.y v.lo.y a.y v.hi.y w.lo.y b.y w.hi.y g.y u.y_low u.y_high e.y_low e.y_high (sym ny.is ∙ p.y);
            z_gap = shared_gap M.z v.lo.z a.z v.hi.z w.lo.z b.z w.hi.z g.z u.z_low u.z_high e.z_low e.z_high (sym nz.is ∙ p.z);
          }

-- so of each atom of a part that is within the first
pub shares_all : {s : Sight} {xs : List Float} {part : List ℕ} {v w : Bounds} {r : Reach} → SharedSays s v w r → Framed xs part v → Shares s xs part w r
shares_all {s} {xs} {part} {v} {w} {r} n u =
    record { are = λ m h. record { single = record { sound = λ t. (one m h t).sound t; sees = λ t. (one m h t).sees t; none = λ t. (one m h t).none t }; still = n.still } }
  where
    one : (m : ℕ) → m < length part → r.single ≡ true → SingleSays s (position_at xs (get_or part m 0)) r.step w r.single
    one m h t = n.each (position_at xs (get_or part m 0)) (u.are (n.sound t) m h)

pub shared_at : {s : Sight} {a b : Vec3} {w : Bounds} {r : Reach} → a ≡ b → SharedAt s b w r → SharedAt s a w r
shared_at {s} {a} {b} {w} {r} e n = subst (λ (q : Vec3). SharedAt s q w r) (sym e) n

-- ---- a tilted cell
not_above_zero : (n : ℕ) (d : ℤ) → lt (bits 0) (fin false n d) ≡ false → n * up d ≡ 0
unfolding lt of_bits
not_above_zero n d h = none (n * up d) (down d) (ltb-false (0 * 1 * down d) (n * up d * 1) h)
  where
    none : (a c : ℕ) → a * 1 ≤ 0 * 1 * c → a ≡ 0
    none a c h = omega arith

never_below : (x len : Float) → lt (bits 0) len ≡ false → lt (abs_of x) len ≡ false
never_below nan len h = unfold abs_of in unfold lt in refl
never_below (inf s) nan h = unfold abs_of in unfold lt in refl
never_below (inf s) (inf true) h = unfold abs_of in unfold lt in refl
never_below (inf s) (inf false) h = unfold abs_of in unfold lt in refl
never_below (inf s) (fin t n d) h = unfold abs_of in unfold lt in refl
never_below (fin s m e) nan h = unfold abs_of in unfold lt in refl
never_below (fin s m e) (inf true) h = unfold abs_of in unfold lt in refl
never_below (fin s m e) (inf false) h = absurd (true≢false (unfold of_bits in unfold lt in h))
never_below (fin s m e) (fin true n d) h = unfold abs_of in unfold lt in refl
never_below (fin s m e) (fin false n d) h = unfold abs_of in unfold lt in is_false (ltb (m * up e * down d) (n * up d * down e)) (not_T (ltb (m * up e * down d) (n * up d * down e)) (λ t. none (m * up e * down d) (n * up d) (down e) (not_above_zero n d h) (ltb→lt (m * up e * down d) (n * up d * down e) t)))
  where
    none : (a b c : ℕ) → b ≡ 0 → a < b * c → ⊥
    none a b c e h = omega (arith, ap (λ (k : ℕ). k * c) e, zero-mul c)

pub one_below : lt one (inf false) ≡ true
unfolding of_bits lt
one_below = refl

unit_axis : (p : Bool) (x u : Float) → p ≡ true → T (fits binary64 x) → lt (abs_of x) one ≡ true → NearSays (abs_of x) one x u → u ≡ round_axis_of p x
unfolding round_axis_of
unit_axis p x u e F h n = rw e (n.formula refl h one_below ∙ unfold of_bits in nearest_one x F)

pub dot_fits : (a b : Vec3) → T (fits binary64 (dot_of a b))
dot_fits a b = add-fits binary64 (a.x ⊗ b.x ⊕ a.y ⊗ b.y) (a.z ⊗ b.z)

module _ (s : Sight) (d : Vec3) where
  abbrev f : Vec3
  f = fractions_of s d

  pub record Tilts : Type 0 where
    pub low : lt (bits 0) s.prepared.short.x ≡ false
    pub skewed : s.prepared.general.skewed ≡ true
    pub regular : s.prepared.general.singular ≡ false
    pub px : s.prepared.lattice.px ≡ true
    pub py : s.prepared.lattice.py ≡ true
    pub pz : s.prepared.lattice.pz ≡ true
    pub units : Three (lt (abs_of f.x) one) (lt (abs_of f.y) one) (lt (abs_of f.z) one)

  tilts : tilted_holds s d ≡ true → Tilts
  tilts h =
      let p = s.prepared in
      let w = not (lt (bits 0) p.short.x) in
      let q0 = both_true (is_tilted s) (in_unit f) h in
      let q1 = both_true (w && p.general.skewed && not p.general.singular && p.lattice.px && p.lattice.py) p.lattice.pz q0.0 in
      let q2 = both_true (w && p.general.skewed && not p.general.singular && p.lattice.px) p.lattice.py q1.0 in
      let q3 = both_true (w && p.general.skewed && not p.general.singular) p.lattice.px q2.0 in
      let q4 = both_true (w && p.general.skewed) (not p.general.singular) q3.0 in
      let q5 = both_true w p.general.skewed q4.0 in
      record {
        low = not-true (lt (bits 0) p.short.x) q5.0;
        skewed = q5.1;
        regular = not-true p.general.singular q4.1;
        px = q3.1;
        py = q2.1;
        pz = q1.1;
        units = three (lt (abs_of f.x) one) (lt (abs_of f.y) one) (lt (abs_of f.z) one) q0.1;
      }

  image_tilted : Tilts → (image_in s.prepared d).diff ≡ times_of (matrix_of s.prepared.lattice) (rounded_by s.prepared.lattice.px s.prepared.lattice.py s.prepared.lattice.pz f.x f.y f.z)
  unfolding image_in diff_in image_by general_by
  image_tilted t = rw (never_below d.x s.prepared.short.x t.low, t.skewed, t.regular)

  pub tilted_law : {u v w : Float} → NearSays (abs_of f.x) one f.x u → NearSays (abs_of f.y) one f.y v → NearSays (abs_of f.z) one f.z w
      → {r : Bool} → r ≡ le (norm2_of (times_of (matrix_of s.prepared.lattice) (record { x = u; y = v; z = w }))) s.limit → TiltedSays s d r
  tilted_law {u} {v} {w} nx ny nz {r} e = record { is = go }
    where
      rounded : Tilts → ◌≡◌ {A = Vec3} (record { x = u; y = v; z = w }) (rounded_by s.prepared.lattice.px s.prepared.lattice.py s.prepared.lattice.pz f.x f.y f.z)
      rounded t =
          λ i. record {
            x = unit_axis s.prepared.lattice.px f.x u t.px (dot_fits s.prepared.general.ix d) t.units.x nx i;
            y = unit_axis s.prepared.lattice.py f.y v t.py (dot_fits s.prepared.general.iy d) t.units.y ny i;
            z = unit_axis s.prepared.lattice.pz f.z w t.pz (dot_fits s.prepared.general.iz d) t.units.z nz i;
          }

      go : tilted_holds s d ≡ true → r ≡ sees_apart s d
      go h =
          let t = tilts h in
          e ∙ ap (λ (q : Vec3). le (norm2_of (times_of (matrix_of s.prepared.lattice) q)) s.limit) (rounded t)
          ∙ unfold sees_apart in ap (λ (q : Vec3). le (norm2_of q) s.limit) (sym (image_tilted t))

-- ---- in a tilted cell: a difference is seen where the other way round is
pub one_fits : T (fits binary64 one)
unfolding of_bits fits
one_fits = tt

nears : (x : Float) → T (fits binary64 x) → NearSays (abs_of x) one x (near_axis_of (abs_of x) one x)
nears x F = record { is = refl; formula = λ A h k. near_apart one x (inf false) (abs_of x) (near_axis_of (abs_of x) one x) one_fits F A h k refl }

module _ (s : Sight) (a b : Vec3) where
  abbrev forth : Vec3
  forth = fractions_of s (turned true a b)

  abbrev back : Vec3
  back = fractions_of s (turned false a b)

  fraction_opposite : (v : Vec3) → Opposite (dot_of v (turned true a b)) (dot_of v (turned false a b))
  fraction_opposite v =
      opposite_three v.x v.y v.z (a.x ⊖ b.x) (a.y ⊖ b.y) (a.z ⊖ b.z) (b.x ⊖ a.x) (b.y ⊖ a.y) (b.z ⊖ a.z)
      (opposite_sub a.x b.x) (opposite_sub a.y b.y) (opposite_sub a.z b.z)

  turned_holds : tilted_holds s (turned true a b) ≡ true → tilted_holds s (turned false a b) ≡ true
  turned_holds h =
      (λ i. is_tilted s
      && (lt (opposite_abs forth.x back.x (fraction_opposite s.prepared.general.ix) i) one
      && lt (opposite_abs forth.y back.y (fraction_opposite s.prepared.general.iy) i) one
      && lt (opposite_abs forth.z back.z (fraction_opposite s.prepared.general.iz) i) one))
      ∙ h

  abbrev nears_of : Vec3 → Vec3
  nears_of f = record { x = near_axis_of (abs_of f.x) one f.x; y = near_axis_of (abs_of f.y) one f.y; z = near_axis_of (abs_of f.z) one f.z }

  times_square : (m : Matrix) (u v : Vec3) → Opposite u.x v.x → Opposite u.y v.y → Opposite u.z v.z → norm2_of (times_of m u) ≡ norm2_of (times_of m v)
  unfolding times_of
  times_square m u v p q r = norm2_by (times_of m u) (times_of m v) (square_of (row m 0)) (square_of (row m 1)) (square_of (row m 2))
    where
      square_of : (l : List Float) → times_row l u ⊗ times_row l u ≡ times_row l v ⊗ times_row l v
      square_of l = opposite_square (times_row l u) (times_row l v) (opposite_three (at l 0) (at l 1) (at l 2) u.x u.y u.z v.x v.y v.z p q r)

  pub tilted_seen : (d : Vec3) → tilted_holds s d ≡ true → le (norm2_of (times_of (matrix_of s.prepared.lattice) (nears_of (fractions_of s d)))) s.limit ≡ sees_apart s d
  tilted_seen d h =
      (tilted_law s d
      (nears (fractions_of s d).x (dot_fits s.prepared.general.ix d))
      (nears (fractions_of s d).y (dot_fits s.prepared.general.iy d))
      (nears (fractions_of s d).z (dot_fits s.prepared.general.iz d))
      refl).is h

  pub tilted_back : tilted_holds s (turned true a b) ≡ true → sees_apart s (turned true a b) ≡ sees_apart s (turned false a b)
  tilted_back h =
      let t = (tilts s (turned true a b) h).units in
      sym (tilted_seen (turned true a b) h)
      ∙ ap (λ (q : Float). le q s.limit)
      (times_square (matrix_of s.prepared.lattice) (nears_of forth) (nears_of back)
      (near_opposite forth.x back.x (dot_fits s.prepared.general.ix (turned true a b)) t.x (fraction_opposite s.prepared.general.ix))
      (near_opposite forth.y back.y (dot_fits s.prepared.general.iy (turned true a b)) t.y (fraction_opposite s.prepared.general.iy))
      (near_opposite forth.z back.z (dot_fits s.prepared.general.iz (turned true a b)) t.z (fraction_opposite s.prepared.general.iz)))
      ∙ tilted_seen (turned false a b) (turned_holds h)

-- ---- as the code has them
pub box_says : (s : Sight) (a b : Vec3) {x y z q : Float} → SideSays s.prepared.short.x a.x b.x x → SideSays s.prepared.short.y a.y b.y y → SideSays s.prepared.short.z a.z b.z z
    → q ≡ norm2_of (record { x = x; y = y; z = z }) → BoxSays s a b (le q s.limit)
box_says s a b nx ny nz e = box_law s a b nx ny nz (ap (λ (z : Float). le z s.limit) e)

pub tilted_says : (s : Sight) (d : Vec3) {g : Vec3} {u v w q : Float} {m : Matrix} {t : Vec3} → g ≡ fractions_of s d
    → NearSays (abs_of g.x) one g.x u → NearSays (abs_of g.y) one g.y v → NearSays (abs_of g.z) one g.z w
    → m ≡ matrix_of s.prepared.lattice → t ≡ times_of m (record { x = u; y = v; z = w }) → q ≡ norm2_of t → TiltedSays s d (le q s.limit)
tilted_says s d {g} {u} {v} {w} {q} {m} {t} e nx ny nz em et eq =
    tilted_law s d
    (subst (λ (h : Vec3). NearSays (abs_of h.x) one h.x u) e nx)
    (subst (λ (h : Vec3). NearSays (abs_of h.y) one h.y v) e ny)
    (subst (λ (h : Vec3). NearSays (abs_of h.z) one h.z w) e nz)
    (ap (λ (z : Float). le z s.limit) (eq ∙ ap norm2_of (et ∙ ap (λ (k : Matrix). times_of k (record { x = u; y = v; z = w })) em)))

pub box_turn : {s : Sight} {a b : Vec3} {r h : Bool} → BoxSays s a b r → h ≡ box_holds s a b → (rising : Bool) → h ≡ true → r ≡ sees_apart s (turned rising a b)
box_turn n e rising t = n.is rising (sym e ∙ t)

pub tilted_turn : {s : Sight} {d : Vec3} {r h : Bool} → TiltedSays s d r → h ≡ tilted_holds s d → (rising : Bool) (a b : Vec3) → d ≡ turned true a b → h ≡ true → r ≡ sees_apart s (turned rising a b)
tilted_turn {s} n e rising a b ed t = n.is (sym e ∙ t) ∙ ap (λ (d : Vec3). sees_apart s d) ed ∙ go rising
  where
    go : (rising : Bool) → sees_apart s (turned true a b) ≡ sees_apart s (turned rising a b)
    go true = refl
    go false = tilted_back s a b (sym (ap (λ (d : Vec3). tilted_holds s d) ed) ∙ sym e ∙ t)

-- ---- the loops' test is the scene's
pub turned_sees : (s : Sight) (rising : Bool) (a b : Vec3) → sees_apart s (turned rising a b) ≡ sees_of s (cond rising a b) (cond rising b a)
unfolding sees_apart sees_of
turned_sees s true a b = refl
turned_sees s false a b = refl
