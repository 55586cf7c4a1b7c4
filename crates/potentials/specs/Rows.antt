-- A block of a list's rows side by side, in one slice of 512 floats: how the atoms of row t lie to each other, x at t, y at 128 + t, z at 256 + t, and their
-- squared distance at 384 + t. And the rows of it that are not skipped, by their places. Nobody has to believe it. Definitions only.
use Rattle.std.specs.Prelude.{◌≡◌, Bool, true, false, cond, ◌||◌, ℕ, ◌+◌, ◌*◌, ◌/◌, ◌<◌, ◌≤◌, Float, length, get_or, set}
use mathlib.Core.List.{List, foldl}
use Rattle.std.specs.Float.Ieee.{lt}
use Rattle.float.specs.Arith.{◌⊕◌, ◌⊗◌, at, bits}
use Rattle.float.specs.Def.{abs_of}
use Rattle.float.specs.Literals.{f0}
use Rattle.lists.specs.Atoms.{atoms_of}
use Rattle.lists.specs.Lists.{up_to}
use Rattle.ranges.specs.Rows.{is_absent}
use Rattle.cell.specs.declared.Vec3.{Vec3}
use Rattle.cell.specs.Vec.{zero_vec, sub_of, norm2_of, position_at}
use Rattle.cell_prepared.specs.declared.Prepared.{Prepared}
use Rattle.cell_prepared.specs.Facts.{short_axis, is_short, short_image, image_in, SettledSays}
use Rattle.potentials_pair.specs.declared.Lj.{Lj}
use Rattle.potentials_pair.specs.Coulomb.{neutral, coulomb_near}
use Rattle.potentials_pair.specs.Pull.{Total, after, skips}
use Rattle.potentials_pair.specs.Species.{Tables}
use Rattle.potentials.specs.Terms.{displaced}
use Rattle.potentials.specs.Blocks.{scaled_pull, lj_with, NearRest}

-- ---- how the rows' atoms lie
abbrev pub way_on : List Float → ℕ → Vec3
way_on ways t = record { x = at ways t; y = at ways (128 + t); z = at ways (256 + t) }

abbrev pub square_on : List Float → ℕ → Float
square_on ways t = at ways (384 + t)

abbrev pub set_way : List Float → ℕ → Vec3 → List Float
set_way ways t d = set (set (set ways t d.x) (128 + t) d.y) (256 + t) d.z

abbrev pub set_row : List Float → ℕ → Vec3 → Float → List Float
set_row ways t d r2 = set (set_way ways t d) (384 + t) r2

-- the two atoms of row k
abbrev pub ends_of : List ℕ → ℕ → ℕ × ℕ
ends_of table k = (get_or table (2 * k) 0, get_or table (2 * k + 1) 0)

-- zeros where an atom is not there: they are skipped
unfoldable pub way_of : Prepared → List Float → ℕ × ℕ → Vec3
way_of p xs e = cond (is_absent (atoms_of xs) e) zero_vec (displaced (λ d. image_in p d) xs e)

-- n rows from `from` on
pub record Rowed (p : Prepared) (xs : List Float) (table : List ℕ) (from n : ℕ) (ways : List Float) : Type 0 where
  pub way : (t : ℕ) → t < n → way_on ways t ≡ way_of p xs (ends_of table (from + t))
  pub square : (t : ℕ) → t < n → square_on ways t ≡ norm2_of (way_on ways t)

-- ---- in a box
-- the differences as they stand, of rows whose atoms are there
pub record Differ (xs : List Float) (table : List ℕ) (from n : ℕ) (ways : List Float) : Type 0 where
  pub there : (t : ℕ) → t < n → is_absent (atoms_of xs) (ends_of table (from + t)) ≡ false
  pub are : (t : ℕ) → t < n → way_on ways t ≡ sub_of (position_at xs (get_or table (2 * (from + t)) 0)) (position_at xs (get_or table (2 * (from + t) + 1) 0))

pub record DifferSays (xs : List Float) (table : List ℕ) (from n : ℕ) (ways : List Float) (r : Bool) : Type 0 where
  pub differ : r ≡ true → Differ xs table from n ways

-- one axis, n numbers from place o on: each has its image in place of it, and all were short; the rest is as it was
pub record AxisTurned (len : Float) (o n : ℕ) (before now : List Float) : Type 0 where
  pub below : (k : ℕ) → k < o → at now k ≡ at before k
  pub above : (k : ℕ) → o + n ≤ k → at now k ≡ at before k
  pub short : (m : ℕ) → m < n → lt (abs_of (at before (o + m))) len ≡ true
  pub image : (m : ℕ) → m < n → at now (o + m) ≡ short_axis len (at before (o + m))

-- .. if the flag says so
pub record AxisSays (len : Float) (o n : ℕ) (before now : List Float) (r : Bool) : Type 0 where
  pub turned : r ≡ true → AxisTurned len o n before now

-- a 0 added to each of them; and whether each is then its own image
pub record ZeroAdded (o n : ℕ) (before now : List Float) : Type 0 where
  pub below : (k : ℕ) → k < o → at now k ≡ at before k
  pub above : (k : ℕ) → o + n ≤ k → at now k ≡ at before k
  pub settled : (m : ℕ) → m < n → SettledSays (at before (o + m)) (at now (o + m))

pub record AllInner (len : Float) (o n : ℕ) (before now : List Float) (r : Bool) : Type 0 where
  pub added : ZeroAdded o n before now
  pub short : r ≡ true → (m : ℕ) → m < n → lt (abs_of (at before (o + m))) len ≡ true
  pub image : r ≡ true → (m : ℕ) → m < n → at before (o + m) ⊕ bits 0 ≡ short_axis len (at before (o + m))

pub record Squared (n : ℕ) (before now : List Float) : Type 0 where
  pub below : (k : ℕ) → k < 384 → at now k ≡ at before k
  pub square : (t : ℕ) → t < n → square_on now t ≡ norm2_of (way_on before t)

-- the images of n differences in a box of lengths s, and their squares
pub record BoxTurned (s : Vec3) (n : ℕ) (before now : List Float) (r : Bool) : Type 0 where
  pub short : r ≡ true → (t : ℕ) → t < n → is_short s (way_on before t) ≡ true
  pub image : r ≡ true → (t : ℕ) → t < n → way_on now t ≡ short_image s (way_on before t)
  pub square : r ≡ true → (t : ℕ) → t < n → square_on now t ≡ norm2_of (way_on now t)

pub record RowedSays (p : Prepared) (xs : List Float) (table : List ℕ) (from n : ℕ) (ways : List Float) (r : Bool) : Type 0 where
  pub rowed : r ≡ true → Rowed p xs table from n ways

-- ---- those of n rows that are not skipped: c places, in order. What they add, whatever each adds, is what the rows add
pub record Picked (skip : ℕ → Bool) (n : ℕ) (kept : List ℕ) (c : ℕ) : Type 0 where
  pub few : c ≤ n
  pub within : (m : ℕ) → m < c → get_or kept m 0 < n
  pub same : (g : Total → ℕ → Total) (t : Total) → foldl (λ (x : Total) (m : ℕ). g x (get_or kept m 0)) t (up_to c) ≡ foldl (λ (x : Total) (k : ℕ). cond (skip k) x (g x k)) t (up_to n)

-- by the distance alone, with the squared distance at each place
unfoldable pub is_far : Float → List Float → ℕ → Bool
is_far cutoff ways t = skips cutoff (square_on ways t)

pub record NearPicked (cutoff : Float) (ways : List Float) (n : ℕ) (atoms atoms' : List ℕ) (room room' : List Float) (c : ℕ) : Type 0 where
  pub picked : Picked (is_far cutoff ways) n atoms' c
  pub squares : (m : ℕ) → m < c → at room' m ≡ square_on ways (get_or atoms' m 0)
  pub others : NearRest atoms atoms' room room'

-- the rows of the places are there
pub record RowsThere (table : List ℕ) (from : ℕ) (kept : List ℕ) (c : ℕ) : Type 0 where
  pub few : c ≤ 128
  pub room : 128 ≤ length kept
  pub small : (m : ℕ) → m < c → get_or kept m 0 < 128
  pub there : (m : ℕ) → m < c → from + get_or kept m 0 < length table / 2

-- what place m adds: an energy, and a force so much longer than the way
unfoldable pub kept_step : List ℕ → ℕ → List ℕ → List Float → List Float → Total → ℕ → Total
kept_step table from kept ways pulls t m =
    after t (ends_of table (from + get_or kept m 0)) (scaled_pull (at pulls (2 * m)) (way_on ways (get_or kept m 0)) (at pulls (2 * m + 1)))

-- what row k of a block adds: Lennard-Jones
unfoldable pub lj_row : Lj → Tables → List ℕ → List ℕ → ℕ → List Float → Total → ℕ → Total
lj_row lj tab species table from ways t k =
    after t (ends_of table (from + k)) (lj_with lj tab species (get_or table (2 * (from + k)) 0) (get_or table (2 * (from + k) + 1) 0) (way_on ways k) (square_on ways k))

unfoldable pub lj_rowed : Lj → Tables → List ℕ → List ℕ → ℕ → List Float → Total → ℕ → Total
lj_rowed lj tab species table from ways t k = cond (is_far lj.cutoff ways k) t (lj_row lj tab species table from ways t k)

-- .. Coulomb: the charges' product, what is skipped, and what the row adds
abbrev pub charges_on : List Float → List ℕ → ℕ → Float × Float
charges_on charges table k = (get_or charges (get_or table (2 * k) 0) f0, get_or charges (get_or table (2 * k + 1) 0) f0)

unfoldable pub product_on : Float → List Float → List ℕ → ℕ → ℕ → Float
product_on ke charges table from k = ke ⊗ (charges_on charges table (from + k)).0 ⊗ (charges_on charges table (from + k)).1

unfoldable pub is_idle : Float → List Float → List ℕ → ℕ → List Float → ℕ → Bool
is_idle cutoff charges table from ways k = neutral (charges_on charges table (from + k)).0 (charges_on charges table (from + k)).1 || skips cutoff (square_on ways k)

unfoldable pub coulomb_row : Float → List Float → List ℕ → ℕ → List Float → Total → ℕ → Total
coulomb_row ke charges table from ways t k = after t (ends_of table (from + k)) (coulomb_near (product_on ke charges table from k) (way_on ways k) (square_on ways k))

unfoldable pub coulomb_rowed : Float → Float → List Float → List ℕ → ℕ → List Float → Total → ℕ → Total
coulomb_rowed ke cutoff charges table from ways t k = cond (is_idle cutoff charges table from ways k) t (coulomb_row ke charges table from ways t k)

pub record ChargesPicked (ke cutoff : Float) (charges : List Float) (table : List ℕ) (from : ℕ) (ways : List Float) (n : ℕ) (kept : List ℕ) (two : List Float) (c : ℕ) : Type 0 where
  pub picked : Picked (is_idle cutoff charges table from ways) n kept c
  pub products : (m : ℕ) → m < c → at two (2 * m) ≡ product_on ke charges table from (get_or kept m 0)
  pub squares : (m : ℕ) → m < c → at two (2 * m + 1) ≡ square_on ways (get_or kept m 0)
