-- The atoms of a bin side by side in local arrays, and which of them an atom is near. Nobody has to believe it. Definitions only.
use Rattle.std.specs.Prelude.{ℕ, ◌+◌, ◌≤◌, ◌<◌, ◌≡◌, Bool, true, false, cond, not, ◌&&◌, List, T, ltb, length, get_or, take, drop, Float}
use Rattle.std.specs.Float.{binary64}
use Rattle.std.specs.Float.Ieee.{lt, le, eq, fits}
use Rattle.float.specs.Arith.{◌⊕◌, ◌⊖◌, ◌⊗◌, at, bits}
use Rattle.float.specs.Def.{abs_of}
use Rattle.float.specs.Literals.{f1}
use Rattle.lists.specs.Lists.{keep}
use Rattle.cell.specs.declared.Vec3.{Vec3}
use Rattle.cell.specs.declared.Lattice.{Lattice}
use Rattle.cell.specs.declared.General.{General}
use Rattle.cell.specs.Vec.{sub_of, add_of, dot_of, norm2_of, position_at}
use Rattle.cell.specs.Matrix.{matrix_of, times_of}
use Rattle.cell_prepared.specs.Facts.{huge, image_in}
use Rattle.cell_square.specs.Square.{steady_of, step_of, calm_of, nearer_of, gap_of, low_sum, high_sum}
use Rattle.neighbor_asked.specs.Strays.{bounded}
use Rattle.neighbor_listing.specs.declared.sight.Sight.{Sight}
use Rattle.neighbor_listing.specs.declared.side.Bounds.{Bounds}
use Rattle.neighbor_listing.specs.declared.side.Reach.{Reach}

-- three rooms of 64
pub record SideRooms (bx by bz : List Float) : Type 0 where
  pub x64 : length bx ≡ 64
  pub y64 : length by ≡ 64
  pub z64 : length bz ≡ 64

-- place k of them
abbrev pub spot_in : List Float → List Float → List Float → ℕ → Vec3
spot_in bx by bz k = record { x = at bx k; y = at by k; z = at bz k }

-- the first k atoms of a part are there
pub record LaidOut (xs : List Float) (part : List ℕ) (bx by bz : List Float) (k : ℕ) : Type 0 where
  pub rooms : SideRooms bx by bz
  pub are : (m : ℕ) → m < k → spot_in bx by bz m ≡ position_at xs (get_or part m 0)

-- a less b, or b less a
abbrev pub turned : Bool → Vec3 → Vec3 → Vec3
turned rising a b =
    record {
      x = cond rising (a.x ⊖ b.x) (b.x ⊖ a.x);
      y = cond rising (a.y ⊖ b.y) (b.y ⊖ a.y);
      z = cond rising (a.z ⊖ b.z) (b.z ⊖ a.z);
    }

-- whether a difference is seen
unfoldable pub sees_apart : Sight → Vec3 → Bool
sees_apart s d = le (norm2_of (image_in s.prepared d).diff) s.limit

-- a box of finite lengths, and two atoms in it that are less than a length apart on each axis
abbrev pub box_holds : Sight → Vec3 → Vec3 → Bool
box_holds s a b =
    bounded s.prepared.short && lt (abs_of (a.x ⊖ b.x)) s.prepared.short.x && lt (abs_of (a.y ⊖ b.y)) s.prepared.short.y
    && lt (abs_of (a.z ⊖ b.z)) s.prepared.short.z

-- whichever atom is the low one
pub record BoxSays (s : Sight) (a b : Vec3) (r : Bool) : Type 0 where
  pub is : (rising : Bool) → box_holds s a b ≡ true → r ≡ sees_apart s (turned rising a b)

-- the fractions of a difference, and whether the general way rounds each to -1, 0 or 1
abbrev pub fractions_of : Sight → Vec3 → Vec3
fractions_of s d = record { x = dot_of s.prepared.general.ix d; y = dot_of s.prepared.general.iy d; z = dot_of s.prepared.general.iz d }

abbrev pub in_unit : Vec3 → Bool
in_unit f = lt (abs_of f.x) f1 && lt (abs_of f.y) f1 && lt (abs_of f.z) f1

-- a cell that always takes the general way, periodic on each axis
abbrev pub is_tilted : Sight → Bool
is_tilted s =
    not (lt (bits 0) s.prepared.short.x) && s.prepared.general.skewed && not s.prepared.general.singular
    && s.prepared.lattice.px && s.prepared.lattice.py && s.prepared.lattice.pz

abbrev pub tilted_holds : Sight → Vec3 → Bool
tilted_holds s d = is_tilted s && in_unit (fractions_of s d)

pub record TiltedSays (s : Sight) (d : Vec3) (r : Bool) : Type 0 where
  pub is : tilted_holds s d ≡ true → r ≡ sees_apart s d

-- ---- a part's bounds
pub record Enclosed (w : Bounds) (b : Vec3) : Type 0 where
  pub x_low : le w.lo.x b.x ≡ true
  pub x_high : le b.x w.hi.x ≡ true
  pub y_low : le w.lo.y b.y ≡ true
  pub y_high : le b.y w.hi.y ≡ true
  pub z_low : le w.lo.z b.z ≡ true
  pub z_high : le b.z w.hi.z ≡ true

pub record AllEnclosed (bx by bz : List Float) (k : ℕ) (w : Bounds) (r : Bool) : Type 0 where
  pub are : r ≡ true → (m : ℕ) → m < k → Enclosed w (spot_in bx by bz m)

-- the first k places are in them, where they are sound
pub record Bounded (bx by bz : List Float) (k : ℕ) (w : Bounds) : Type 0 where
  pub are : w.sound ≡ true → (m : ℕ) → m < k → Enclosed w (spot_in bx by bz m)

abbrev pub is_enclosed : Bounds → Vec3 → Bool
is_enclosed w b = le w.lo.x b.x && le b.x w.hi.x && le w.lo.y b.y && le b.y w.hi.y && le w.lo.z b.z && le b.z w.hi.z

-- whether a place is seen from a, by a step on each axis: the step is added to a less b, or taken off b less a, which has the same square
abbrev pub stepped_sees : Sight → Vec3 → Vec3 → Vec3 → Bool
stepped_sees s a p b = le (norm2_of (record { x = b.x ⊖ a.x ⊖ p.x; y = b.y ⊖ a.y ⊖ p.y; z = b.z ⊖ a.z ⊖ p.z })) s.limit

-- .. by a step of nothing
abbrev pub no_step : Vec3
no_step = record { x = bits 0; y = bits 0; z = bits 0 }

abbrev pub still_sees : Sight → Vec3 → Vec3 → Vec3 → Bool
still_sees s a p b = le (norm2_of (record { x = b.x ⊖ a.x; y = b.y ⊖ a.y; z = b.z ⊖ a.z })) s.limit

-- the step of the differences of a and what is within the bounds
abbrev pub step_in : Sight → Vec3 → Bounds → Vec3
step_in s a w =
    record {
      x = step_of s.prepared.short.x (a.x ⊖ w.hi.x) (a.x ⊖ w.lo.x);
      y = step_of s.prepared.short.y (a.y ⊖ w.hi.y) (a.y ⊖ w.lo.y);
      z = step_of s.prepared.short.z (a.z ⊖ w.hi.z) (a.z ⊖ w.lo.z);
    }

-- how far the places within the bounds are from a at least, but for the signs
abbrev pub gap_in : Vec3 → Vec3 → Bounds → Vec3
gap_in p a w =
    record {
      x = gap_of p.x (a.x ⊖ w.hi.x) (a.x ⊖ w.lo.x);
      y = gap_of p.y (a.y ⊖ w.hi.y) (a.y ⊖ w.lo.y);
      z = gap_of p.z (a.z ⊖ w.hi.z) (a.z ⊖ w.lo.z);
    }

abbrev pub is_beyond : Sight → Vec3 → Vec3 → Bounds → Bool
is_beyond s p a w = not (le (norm2_of (gap_in p a w)) s.limit)

-- whichever atom is the low one, of every place within the bounds, by the step p
pub record SingleSays (s : Sight) (a p : Vec3) (w : Bounds) (r : Bool) : Type 0 where
  pub sound : r ≡ true → w.sound ≡ true
  pub sees : r ≡ true → (b : Vec3) → Enclosed w b → (rising : Bool) → stepped_sees s a p b ≡ sees_apart s (turned rising a b)
  pub none : r ≡ true → is_beyond s p a w ≡ true → (b : Vec3) → Enclosed w b → (rising : Bool) → sees_apart s (turned rising a b) ≡ false

pub record StillSays (s : Sight) (a : Vec3) (w : Bounds) (r : Bool) : Type 0 where
  pub single : r ≡ true → SingleSays s a (step_in s a w) w true
  pub step : r ≡ true → no_step ≡ step_in s a w

-- .. and of a step that is shared
pub record SharedAt (s : Sight) (a : Vec3) (w : Bounds) (r : Reach) : Type 0 where
  pub single : SingleSays s a r.step w r.single
  pub still : r.still ≡ true → r.step ≡ no_step

-- ---- two bins: one step for all that is within v and all that is within w
pub record SharedSays (s : Sight) (v w : Bounds) (r : Reach) : Type 0 where
  pub sound : r.single ≡ true → v.sound ≡ true
  pub each : (a : Vec3) → Enclosed v a → SingleSays s a r.step w r.single
  pub still : r.still ≡ true → r.step ≡ no_step

-- a part's atoms are within the bounds, where they are sound
pub record Framed (xs : List Float) (part : List ℕ) (v : Bounds) : Type 0 where
  pub are : v.sound ≡ true → (m : ℕ) → m < length part → Enclosed v (position_at xs (get_or part m 0))

-- so each atom of the part has that step with all that is within w
pub record Shares (s : Sight) (xs : List Float) (part : List ℕ) (w : Bounds) (r : Reach) : Type 0 where
  pub are : (m : ℕ) → m < length part → SharedAt s (position_at xs (get_or part m 0)) w r

-- ---- in a tilted cell: a row's products with what lies from low up to high, the least and the greatest
abbrev pub low_by : Vec3 → Vec3 → Vec3 → Float
low_by c low high = low_sum c.x c.y c.z low.x high.x low.y high.y low.z high.z

abbrev pub high_by : Vec3 → Vec3 → Vec3 → Float
high_by c low high = high_sum c.x c.y c.z low.x high.x low.y high.y low.z high.z

unfoldable pub least_rows : Vec3 → Vec3 → Vec3 → Vec3 → Vec3 → Vec3
least_rows x y z low high = record { x = low_by x low high; y = low_by y low high; z = low_by z low high }

unfoldable pub greatest_rows : Vec3 → Vec3 → Vec3 → Vec3 → Vec3 → Vec3
greatest_rows x y z low high = record { x = high_by x low high; y = high_by y low high; z = high_by z low high }

-- the fractions of differences from low up to high
abbrev pub least_fractions : Sight → Vec3 → Vec3 → Vec3
least_fractions s low high = least_rows s.prepared.general.ix s.prepared.general.iy s.prepared.general.iz low high

abbrev pub greatest_fractions : Sight → Vec3 → Vec3 → Vec3
greatest_fractions s low high = greatest_rows s.prepared.general.ix s.prepared.general.iy s.prepared.general.iz low high

-- one step takes fractions from low up to high to their nearest
unfoldable pub is_slanted : Sight → Bounds → Vec3 → Vec3 → Bool
is_slanted s w low high =
    w.sound && is_tilted s && steady_of f1 low.x high.x && steady_of f1 low.y high.y
    && steady_of f1 low.z high.z

unfoldable pub whole_step : Vec3 → Vec3 → Vec3
whole_step low high =
    record {
      x = step_of f1 low.x high.x;
      y = step_of f1 low.y high.y;
      z = step_of f1 low.z high.z;
    }

-- .. which is nothing
unfoldable pub is_level : Sight → Bounds → Vec3 → Vec3 → Bool
is_level s w low high =
    w.sound && is_tilted s && calm_of f1 low.x high.x && calm_of f1 low.y high.y
    && calm_of f1 low.z high.z

-- .. of what is a float's value
pub record FitEnds (low high : Vec3) : Type 0 where
  pub x_low : T (fits binary64 low.x)
  pub x_high : T (fits binary64 high.x)
  pub y_low : T (fits binary64 low.y)
  pub y_high : T (fits binary64 high.y)
  pub z_low : T (fits binary64 low.z)
  pub z_high : T (fits binary64 high.z)

pub record SlantSays (s : Sight) (w : Bounds) (low high : Vec3) (r : Reach) : Type 0 where
  pub single : r.single ≡ is_slanted s w low high
  pub step : r.step ≡ whole_step low high

-- the images of fractions from low up to high, by the matrix' rows
abbrev pub least_image : Lattice → Vec3 → Vec3 → Vec3
least_image l low high =
    least_rows (record { x = l.a.x; y = l.b.x; z = l.c.x }) (record { x = l.a.y; y = l.b.y; z = l.c.y }) (record { x = l.a.z; y = l.b.z; z = l.c.z }) low high

abbrev pub greatest_image : Lattice → Vec3 → Vec3 → Vec3
greatest_image l low high =
    greatest_rows (record { x = l.a.x; y = l.b.x; z = l.c.x }) (record { x = l.a.y; y = l.b.y; z = l.c.y }) (record { x = l.a.z; y = l.b.z; z = l.c.z }) low high

abbrev pub are_finite : Vec3 → Vec3 → Bool
are_finite low high = lt (abs_of (high.x ⊖ low.x ⊕ (high.y ⊖ low.y) ⊕ (high.z ⊖ low.z))) huge

unfoldable pub nearer_in : Vec3 → Vec3 → Vec3
nearer_in low high = record { x = nearer_of low.x high.x; y = nearer_of low.y high.y; z = nearer_of low.z high.z }

-- all images of fractions from low up to high are out of sight
unfoldable pub is_outside : Sight → Vec3 → Vec3 → Bool
is_outside s low high =
    are_finite (least_image s.prepared.lattice low high) (greatest_image s.prepared.lattice low high)
    && not (le (norm2_of (nearer_in (least_image s.prepared.lattice low high) (greatest_image s.prepared.lattice low high))) s.limit)

-- whether a place is seen from a, by a step of each fraction
unfoldable pub slanted_sees : Sight → Vec3 → Vec3 → Vec3 → Bool
slanted_sees s a p b = le (norm2_of (times_of (matrix_of s.prepared.lattice) (add_of (fractions_of s (sub_of a b)) p))) s.limit

-- the first vector along x, the second in the plane of x and y: what is below the diagonal of matrix and inverse are zeros, and the squares do not see the
-- products with them
unfoldable pub is_upper : Sight → Bool
is_upper s =
    eq s.prepared.lattice.a.y (bits 0) && eq s.prepared.lattice.a.z (bits 0) && eq s.prepared.lattice.b.z (bits 0)
    && eq s.prepared.general.iy.x (bits 0) && eq s.prepared.general.iz.x (bits 0) && eq s.prepared.general.iz.y (bits 0)

abbrev pub upper_near : General → Vec3 → Vec3 → Vec3
upper_near g p d = record { x = dot_of g.ix d ⊕ p.x; y = g.iy.y ⊗ d.y ⊕ g.iy.z ⊗ d.z ⊕ p.y; z = g.iz.z ⊗ d.z ⊕ p.z }

abbrev pub upper_image : Lattice → Vec3 → Vec3
upper_image l n = record { x = l.a.x ⊗ n.x ⊕ l.b.x ⊗ n.y ⊕ l.c.x ⊗ n.z; y = l.b.y ⊗ n.y ⊕ l.c.y ⊗ n.z; z = l.c.z ⊗ n.z }

unfoldable pub upper_sees : Sight → Vec3 → Vec3 → Vec3 → Bool
upper_sees s a p b = le (norm2_of (upper_image s.prepared.lattice (upper_near s.prepared.general p (sub_of a b)))) s.limit

unfoldable pub slope_sees : Sight → Vec3 → Vec3 → Vec3 → Bool
slope_sees s a p b = cond (is_upper s) (upper_sees s a p b) (slanted_sees s a p b)

-- ---- in either, by what is seen by one step
pub record ReachSays (see : Sight → Vec3 → Vec3 → Vec3 → Bool) (s : Sight) (a : Vec3) (w : Bounds) (r : Reach) : Type 0 where
  pub sound : r.single ≡ true → w.sound ≡ true
  pub sees : r.single ≡ true → (b : Vec3) → Enclosed w b → (rising : Bool) → see s a r.step b ≡ sees_apart s (turned rising a b)
  pub only : r.beyond ≡ true → r.single ≡ true
  pub none : r.beyond ≡ true → (b : Vec3) → Enclosed w b → (rising : Bool) → sees_apart s (turned rising a b) ≡ false
  pub still : r.still ≡ true → r.step ≡ no_step

-- .. and so of the first k places
pub record Reaches (see : Sight → Vec3 → Vec3 → Vec3 → Bool) (s : Sight) (a : Vec3) (bx by bz : List Float) (k : ℕ) (r : Reach) : Type 0 where
  pub sees : r.single ≡ true → (m : ℕ) → m < k → (rising : Bool) → see s a r.step (spot_in bx by bz m) ≡ sees_apart s (turned rising a (spot_in bx by bz m))
  pub still : r.still ≡ true → r.step ≡ no_step

-- whether atom i at a sees atom j at b: low less high
abbrev pub sighted : Sight → ℕ → Vec3 → ℕ → Vec3 → Bool
sighted s i a j b = sees_apart s (turned (ltb i j) a b)

-- so each place from `from` up to `to` is flagged
pub record Flagged (s : Sight) (i : ℕ) (a : Vec3) (part : List ℕ) (bx by bz : List Float) (from to : ℕ) (flags : List ℕ) : Type 0 where
  pub are : (m : ℕ) → from ≤ m → m < to → get_or flags m 0 ≡ cond (sighted s i a (get_or part m 0) (spot_in bx by bz m)) 1 0

-- .. where the loop says that it holds
pub record Flags (s : Sight) (i : ℕ) (a : Vec3) (part : List ℕ) (bx by bz : List Float) (from to : ℕ) (flags : List ℕ) (r : Bool) : Type 0 where
  pub hold : r ≡ true → Flagged s i a part bx by bz from to flags

-- what the flags say is what q says of the atoms of a part from `from` on
abbrev pub Say : (ℕ → Bool) → List ℕ → ℕ → List ℕ → Type 0
Say q part from flags = (m : ℕ) → from ≤ m → m < length part → get_or flags m 0 ≡ cond (q (get_or part m 0)) 1 0

-- each flag is 0 or 1
pub record Bits (part : List ℕ) (from : ℕ) (flags : List ℕ) : Type 0 where
  pub small : (m : ℕ) → from ≤ m → m < length part → get_or flags m 0 ≤ 1

-- r elements at the room's front: those whose flag is 1
pub record FlagsTaken (part : List ℕ) (from : ℕ) (flags : List ℕ) (r : ℕ) (room : List ℕ) : Type 0 where
  pub few : from + r ≤ length part
  pub are : (q : ℕ → Bool) → Say q part from flags → take r room ≡ keep q (drop from part)
