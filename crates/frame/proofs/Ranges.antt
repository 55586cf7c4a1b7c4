-- What the tests of a frame and of its atoms show, and the answer of `squared_distance` by its cases. Assumes nothing.
use Rattle.std.specs.Prelude.{Err, Ok}
use Prim.Native.Nat.{ℕ, ◌+◌, ◌*◌, ◌-◌, ◌/◌, ◌≤◌, ◌<◌}
use native.Mathlib.Nat.{sub-zero, zero-add}
use native.Mathlib.Omega.{arith}
use mathlib.Core.List.{List}
use lib.ListN.{length}
use mathlib.Core.Path.{◌≡◌, refl, sym, ◌∙◌}
use mathlib.Core.Bool.{Bool, true, false, not, ◌&&◌, ◌||◌}
use lib.Dec.{ltb, leb}
use borrow.Author.Tests.{ltb-true, lt-ltb, le-ltb, leb-true, not-true, not-false}
use Rattle.answer.specs.Seen.{answered, refused}
use Rattle.lists.specs.Lists.{numbers, up_to, every, rows}
use Rattle.lists.proofs.Cases.{and_both}
use Rattle.lists.proofs.Exactness.{numbers_at, length_up_to}
use Rattle.lists.proofs.Walks.{numbers_next, numbers_end, every_at}
use Rattle.frame.specs.declared.Side.{Side}
use Rattle.frame.specs.declared.Frame.{Frame}
use Rattle.frame.specs.declared.Spot.{Spot}
use Rattle.frame.specs.Distance.{spot_of, edge_ok, side_ok, frame_ok, spot_ok, squared_of, squared_seen}
use Rattle.frame.specs.Build.{lengths_bad, ranges_ok, frame_asked}
use Rattle.exclusions.specs.Table.{is_table}
use Rattle.answer.specs.declared.Refusal.TheVariants.{Lengths, TooMany, Range, Order}
use Rattle.frame.specs.Steps.{FrameSized, Inside, Framed}

edge_some : (e : ℕ) → edge_ok e ≡ true → (0 < e) × (e ≤ 1048576)
unfolding edge_ok
edge_some e h = let p = and_both (ltb 0 e) (leb e 1048576) h in (ltb-true 0 e p.0, leb-true e 1048576 p.1)

-- a side in range: its edge is, and where it is periodic twice the radius is within it
pub side_some : (e : Side) (radius : ℕ) → side_ok e radius ≡ true → (0 < e.edge) × (e.edge ≤ 1048576) × (e.round ≡ true → 2 * radius ≤ e.edge)
unfolding side_ok
side_some e radius h =
    let p = and_both (edge_ok e.edge) (not e.round || leb (2 * radius) e.edge) h in
    let q = edge_some e.edge p.0 in
    (q.0, q.1, λ t. leb-true (2 * radius) e.edge (rw t at p.1))

module _ (f : Frame) (h : frame_ok f ≡ true) where
  three : (side_ok f.x f.radius && side_ok f.y f.radius && side_ok f.z f.radius ≡ true) × (leb f.radius 1048576 ≡ true)
  unfolding frame_ok
  three = and_both (side_ok f.x f.radius && side_ok f.y f.radius && side_ok f.z f.radius) (leb f.radius 1048576) h

  two : (side_ok f.x f.radius && side_ok f.y f.radius ≡ true) × (side_ok f.z f.radius ≡ true)
  two = and_both (side_ok f.x f.radius && side_ok f.y f.radius) (side_ok f.z f.radius) three.0

  one : (side_ok f.x f.radius ≡ true) × (side_ok f.y f.radius ≡ true)
  one = and_both (side_ok f.x f.radius) (side_ok f.y f.radius) two.0

  pub frame_sides : (side_ok f.x f.radius ≡ true) × (side_ok f.y f.radius ≡ true) × (side_ok f.z f.radius ≡ true)
  frame_sides = (one.0, one.1, two.1)

  pub frame_sized : FrameSized f
  frame_sized =
      record {
        x = (side_some _ _ one.0).1;
        y = (side_some _ _ one.1).1;
        z = (side_some _ _ two.1).1;
        radius = leb-true f.radius 1048576 three.1;
      }

pub spot_inside : (f : Frame) (a : Spot) → spot_ok f a ≡ true → Inside f a
unfolding spot_ok
spot_inside f a h =
    let p = and_both (ltb a.x f.x.edge && ltb a.y f.y.edge) (ltb a.z f.z.edge) h in
    let q = and_both (ltb a.x f.x.edge) (ltb a.y f.y.edge) p.0 in
    record { x = ltb-true _ _ q.0; y = ltb-true _ _ q.1; z = ltb-true _ _ p.1 }

-- a test that the code turned round
pub failed : {x y : Bool} → x ≡ y → not x ≡ true → y ≡ false
failed {x} e h = sym e ∙ not-true x h

pub passed : {x y : Bool} → x ≡ y → not x ≡ false → y ≡ true
passed {x} e h = sym e ∙ not-false x h

module _ (f : Frame) (a b : Spot) where
  pub squared_frame : frame_ok f ≡ false → refused 3 0 ≡ squared_seen f a b
  unfolding squared_seen
  squared_frame h = rw h

  module _ (h : frame_ok f ≡ true) where
    pub squared_first : spot_ok f a ≡ false → refused 3 0 ≡ squared_seen f a b
    unfolding squared_seen
    squared_first k = rw (h, k)

    module _ (k : spot_ok f a ≡ true) where
      pub squared_second : spot_ok f b ≡ false → refused 3 0 ≡ squared_seen f a b
      unfolding squared_seen
      squared_second l = rw (h, k, l)

      pub squared_fine : spot_ok f b ≡ true → {r : ℕ} → r ≡ squared_of f a b → answered r ≡ squared_seen f a b
      unfolding squared_seen
      squared_fine l e = rw (h, k, l, e)

-- ---- a test of the numbers below n, one after the other: what is left decides
pub record Passing (p : ℕ → Bool) (n i : ℕ) : Type 0 where
  pub within : i ≤ n
  pub same : every p (numbers i (n - i)) ≡ every p (up_to n)

module _ (p : ℕ → Bool) (n : ℕ) where
  pub passing_begin : Passing p n 0
  passing_begin = record { within = omega arith; same = rw sub-zero refl }

  module _ {i : ℕ} (u : Passing p n i) where
    module _ (l : i < n) where
      pub passing_turn : p i ≡ true → Passing p n (i + 1)
      unfolding every
      passing_turn h = record { within = omega arith; same = rw (numbers_next n i l, h) at u.same }

      pub passing_fails : p i ≡ false → false ≡ every p (up_to n)
      unfolding every
      passing_fails h = rw (numbers_next n i l, h) at u.same

    pub passing_end : n ≤ i → true ≡ every p (up_to n)
    unfolding every
    passing_end l = rw (numbers_end n i l) at u.same

-- ---- what the ranges' test shows
module _ (f : Frame) (xs : List ℕ) where
  pub ranges_frame : frame_ok f ≡ false → false ≡ ranges_ok f xs
  unfolding ranges_ok
  ranges_frame h = rw h

  pub ranges_rest : frame_ok f ≡ true → {r : Bool} → r ≡ every (λ k. spot_ok f (spot_of xs k)) (up_to (length xs / 3)) → r ≡ ranges_ok f xs
  unfolding ranges_ok
  ranges_rest h e = rw h e

  pub ranges_accepted : ranges_ok f xs ≡ true → frame_ok f ≡ true
  unfolding ranges_ok
  ranges_accepted h = (and_both (frame_ok f) (every (λ k. spot_ok f (spot_of xs k)) (up_to (length xs / 3))) h).0

  pub ranges_framed : ranges_ok f xs ≡ true → Framed f xs
  unfolding ranges_ok
  ranges_framed h =
      let p = and_both (frame_ok f) (every (λ k. spot_ok f (spot_of xs k)) (up_to (length xs / 3))) h in
      record {
        sized = frame_sized f p.0;
        inside =
            λ i l.
            spot_inside f (spot_of xs i)
            (rw (numbers_at 0 (length xs / 3) i l, zero-add i) at (every_at 0 (λ k. spot_ok f (spot_of xs k)) (up_to (length xs / 3)) p.1 i (rw length_up_to l)));
      }

-- ---- the tests before a build, by their cases
module _ (f : Frame) (xs table : List ℕ) (items : ℕ) where
  pub asked_lengths : lengths_bad (length xs) (length table) items ≡ true → Err Lengths ≡ frame_asked f xs table items
  unfolding frame_asked
  asked_lengths h = rw h

  module _ (h : lengths_bad (length xs) (length table) items ≡ false) where
    pub asked_many : 16384 < length xs / 3 → Err (TooMany (length xs / 3)) ≡ frame_asked f xs table items
    unfolding frame_asked
    asked_many k = rw (h, lt-ltb 16384 (length xs / 3) k)

    module _ (k : length xs / 3 ≤ 16384) where
      pub asked_range : ranges_ok f xs ≡ false → Err Range ≡ frame_asked f xs table items
      unfolding frame_asked
      asked_range l = rw (h, le-ltb 16384 (length xs / 3) k, l)

      module _ (l : ranges_ok f xs ≡ true) where
        pub asked_order : is_table (rows table) ≡ false → Err Order ≡ frame_asked f xs table items
        unfolding frame_asked
        asked_order m = rw (h, le-ltb 16384 (length xs / 3) k, l, m)

        pub asked_fine : is_table (rows table) ≡ true → (Ok tt) ≡ frame_asked f xs table items
        unfolding frame_asked
        asked_fine m = rw (h, le-ltb 16384 (length xs / 3) k, l, m)
