-- In an accepted frame no second image hides: of two images within the radius, either they are one or they are opposite at half an edge; and the
-- frame's distance is the nearest image's. Assumes nothing.
use Rattle.std.specs.Prelude.{Err, Ok, Result}
use Rattle.answer.specs.declared.Refusal.{Refusal}
use Rattle.frame.specs.declared.Built.{Built}
use Prim.Native.Nat.{ℕ, zero, suc, ◌+◌, ◌*◌, ◌-◌, ◌/◌, ◌≤◌, ◌<◌}
use mathlib.Core.Path.{◌≡◌, refl, sym, ap, subst, ◌∙◌}
use mathlib.Core.Bool.{Bool, true, false, cond, ◌&&◌}
use mathlib.Core.List.{List}
use mathlib.Core.Logic.{◌⊎◌, inl, inr, ⊎_elim}
use native.Mathlib.Nat.{add-mul, mul-le-mul_right}
use native.Mathlib.Omega.{arith}
use lib.IntN.{ℤ, pos, negsuc, suc_ℤ}
use lib.ListN.{length, take}
use Rattle.answer.specs.Seen.{answered, refused}
use Rattle.lists.specs.Atoms.{atoms_of}
use Rattle.lists.specs.Lists.{rows, Two}
use Rattle.lists.proofs.Exactness.{exactly_as}
use Rattle.lists.proofs.Cases.{below_or, true_or_false, impossible, and_both}
use Rattle.bins.specs.Edge.{gap, distance}
use Rattle.frame.specs.declared.Side.{Side}
use Rattle.frame.specs.declared.Frame.{Frame}
use Rattle.frame.specs.declared.Spot.{Spot}
use Rattle.frame.specs.Distance.{spot_of, along, square_of, squared_of, side_ok, frame_ok, spot_ok, squared_seen, SquaredSays}
use Rattle.frame.specs.Build.{Given, Outcome, frame_asked, after_of, build_of, BuildSays}
use Rattle.frame.specs.Listed.{Close}
use Rattle.frame.specs.Images.{Shift, away, away_on, image_squared, Sees, Opposite, Level, Opposed, Single, Nearest, Hidden, InSight, BuildSights, SquaredSights}
use Rattle.frame.specs.Steps.{Inside, Framed}
use Rattle.frame.proofs.Ranges.{side_some, frame_sides, spot_inside}
use Rattle.frame.proofs.Plans.{product_small}
use Rattle.frame.proofs.Nearby.{root_le}
use Rattle.frame.proofs.Outcomes.{asked_accepted, asked_passed, build_lists}

many : (n m e : ℕ) → n ≤ m → n * e ≤ m * e
many n m e h = mul-le-mul_right e h

-- ---- two images on an axis: s is how far they are away together
data Apart (e s : ℕ) (k l : ℤ) : Type 0 where
  same : k ≡ l → Apart e s k l
  next : l ≡ suc_ℤ k → e ≤ s → Apart e s k l
  back : k ≡ suc_ℤ l → e ≤ s → Apart e s k l
  far : 2 * e ≤ s → Apart e s k l

turned : (e s t : ℕ) (k l : ℤ) → s ≡ t → Apart e s k l → Apart e t l k
turned e s t k l q (same p) = same (sym p)
turned e s t k l q (next p h) = back p (omega arith)
turned e s t k l q (back p h) = next p (omega arith)
turned e s t k l q (far h) = far (omega arith)

module _ (e a b : ℕ) where
  both : ℤ → ℤ → ℕ
  both k l = away e a b k + away e a b l

  up_by : (k m : ℕ) → m * e ≤ both (pos k) (pos (k + m))
  unfolding both away gap
  up_by k m = omega (arith, add-mul k m e)

  up : (k m : ℕ) → Apart e (both (pos k) (pos (k + m))) (pos k) (pos (k + m))
  up k zero = same (ap pos (omega arith))
  up k (suc zero) = next (ap pos (omega arith)) (omega (arith, up_by k 1))
  up k (suc (suc m)) = far (omega (arith, up_by k (suc (suc m)), many 2 (suc (suc m)) e (omega arith)))

  down_by : (k m : ℕ) → m * e ≤ both (negsuc k) (negsuc (k + m))
  unfolding both away gap
  down_by k m = omega (arith, add-mul (k + m) 1 e, add-mul k m e, add-mul k 1 e)

  down : (k m : ℕ) → Apart e (both (negsuc k) (negsuc (k + m))) (negsuc k) (negsuc (k + m))
  down k zero = same (ap negsuc (omega arith))
  down k (suc zero) = back (ap (λ n. suc_ℤ (negsuc n)) {x = suc k} {y = k + 1} (omega arith)) (omega (arith, down_by k 1))
  down k (suc (suc m)) = far (omega (arith, down_by k (suc (suc m)), many 2 (suc (suc m)) e (omega arith)))

  over_by : (k m : ℕ) → k * e + (m + 1) * e ≤ both (pos k) (negsuc m)
  unfolding both away gap
  over_by k m = omega arith

  over : (k m : ℕ) → Apart e (both (pos k) (negsuc m)) (pos k) (negsuc m)
  over zero zero = back refl (omega (arith, over_by 0 0))
  over zero (suc m) = far (omega (arith, over_by 0 (suc m), many 2 (suc m + 1) e (omega arith)))
  over (suc k) m =
      far (omega (arith, over_by (suc k) m, many 1 (suc k) e (omega arith), many 1 (m + 1) e (omega arith)))

  -- the larger of two numbers by the smaller
  rising : (c : ℕ → ℤ) → ((k m : ℕ) → Apart e (both (c k) (c (k + m))) (c k) (c (k + m))) → (k l : ℕ) → k ≤ l → Apart e (both (c k) (c l)) (c k) (c l)
  rising c h k l le = subst (λ (n : ℕ). Apart e (both (c k) (c n)) (c k) (c n)) {x = k + (l - k)} {y = l} (omega arith) (h k (l - k))

  either : (c : ℕ → ℤ) → ((k m : ℕ) → Apart e (both (c k) (c (k + m))) (c k) (c (k + m))) → (k l : ℕ) → Apart e (both (c k) (c l)) (c k) (c l)
  either c h k l =
      ⊎_elim (λ (g : k < l). rising c h k l (omega arith))
      (λ (g : l ≤ k). turned e (both (c l) (c k)) (both (c k) (c l)) (c l) (c k) (unfold both in omega arith) (rising c h l k g)) (below_or k l)

  apart : (k l : ℤ) → Apart e (both k l) k l
  apart (pos k) (pos l) = either pos up k l
  apart (pos k) (negsuc l) = over k l
  apart (negsuc k) (pos l) =
      turned e (both (pos l) (negsuc k)) (both (negsuc k) (pos l)) (pos l) (negsuc k) (unfold both in omega arith) (over l k)
  apart (negsuc k) (negsuc l) = either negsuc down k l

-- ---- two images within the radius along an axis
module _ (e : Side) (radius a b : ℕ) (ok : side_ok e radius ≡ true) (k l : ℤ) (nk : away_on e a b k ≤ radius) (nl : away_on e a b l ≤ radius) where
  facing : e.round ≡ true → Apart e.edge (both e.edge a b k l) k l → (k ≡ l) ⊎ Opposite e radius a b k l
  unfolding both
  facing t (same p) = inl p
  facing t (next p h) =
      let w = (side_some e radius ok).2 t in
      inr (record { round = t; edge = omega arith; next = inl p; first = omega arith; second = omega arith })
  facing t (back p h) =
      let w = (side_some e radius ok).2 t in
      inr (record { round = t; edge = omega arith; next = inr p; first = omega arith; second = omega arith })
  facing t (far h) = let w = (side_some e radius ok).2 t in let z = (side_some e radius ok).0 in absurd (omega arith)

  pub one_axis : (e.round ≡ false → k ≡ pos 0) → (e.round ≡ false → l ≡ pos 0) → (k ≡ l) ⊎ Opposite e radius a b k l
  one_axis hk hl =
      ⊎_elim (λ (t : e.round ≡ true). facing t (apart e.edge a b k l)) (λ (n : e.round ≡ false). inl (hk n ∙ sym (hl n)))
      (true_or_false e.round)

  -- where both are no way off they are one
  level : away_on e a b k ≡ 0 → away_on e a b l ≡ 0 → (k ≡ l) ⊎ Opposite e radius a b k l → Level e a b k l
  level p q (inl s) = record { same = s; none = p }
  level p q (inr o) =
      let z = (side_some e radius ok).0 in let d = o.edge in let n = o.first in absurd (omega arith)

-- ---- on three axes
no_way : (d : ℕ) → square_of d ≤ 0 → d ≡ 0
no_way d h = omega (arith, root_le d 0 h)

-- a sum of squares within the radius's: each is, and where one is the radius the others are nothing
legs : (p q s r : ℕ) → square_of p + square_of q + square_of s ≤ square_of r → (p ≤ r) × (q ≤ r) × (s ≤ r)
legs p q s r h = (root_le p r (omega arith), root_le q r (omega arith), root_le s r (omega arith))

others : (p q s r : ℕ) → square_of p + square_of q + square_of s ≤ square_of r → p ≡ r → (q ≡ 0) × (s ≡ 0)
others p q s r h e =
    let d : square_of p ≡ square_of r = ap square_of e in (no_way q (omega arith), no_way s (omega arith))

module _ (f : Frame) (ok : frame_ok f ≡ true) (a b : Spot) (k l : Shift) (sk : Sees f a b k) (sl : Sees f a b l) where
  abbrev on_x : Shift → ℕ
  on_x k = away_on f.x a.x b.x k.x

  abbrev on_y : Shift → ℕ
  on_y k = away_on f.y a.y b.y k.y

  abbrev on_z : Shift → ℕ
  on_z k = away_on f.z a.z b.z k.z

  within : (m : Shift) → Sees f a b m → square_of (on_x m) + square_of (on_y m) + square_of (on_z m) ≤ square_of f.radius
  unfolding image_squared
  within m s = s.near

  each_leg : (m : Shift) → Sees f a b m → (on_x m ≤ f.radius) × (on_y m ≤ f.radius) × (on_z m ≤ f.radius)
  each_leg m s = legs (on_x m) (on_y m) (on_z m) f.radius (within m s)

  -- the x axis first, the y axis first, the z axis first
  by_x : (m : Shift) → Sees f a b m → on_x m ≡ f.radius → (on_y m ≡ 0) × (on_z m ≡ 0)
  by_x m s = others (on_x m) (on_y m) (on_z m) f.radius (within m s)

  by_y : (m : Shift) → Sees f a b m → on_y m ≡ f.radius → (on_x m ≡ 0) × (on_z m ≡ 0)
  by_y m s = let h = within m s in others (on_y m) (on_x m) (on_z m) f.radius (omega arith)

  by_z : (m : Shift) → Sees f a b m → on_z m ≡ f.radius → (on_x m ≡ 0) × (on_y m ≡ 0)
  by_z m s = let h = within m s in others (on_z m) (on_x m) (on_y m) f.radius (omega arith)

  abbrev sides : (side_ok f.x f.radius ≡ true) × (side_ok f.y f.radius ≡ true) × (side_ok f.z f.radius ≡ true)
  sides = frame_sides f ok

  abbrev OnX : Type 0
  OnX = (k.x ≡ l.x) ⊎ Opposite f.x f.radius a.x b.x k.x l.x

  abbrev OnY : Type 0
  OnY = (k.y ≡ l.y) ⊎ Opposite f.y f.radius a.y b.y k.y l.y

  abbrev OnZ : Type 0
  OnZ = (k.z ≡ l.z) ⊎ Opposite f.z f.radius a.z b.z k.z l.z

  level_x : on_x k ≡ 0 → on_x l ≡ 0 → OnX → Level f.x a.x b.x k.x l.x
  level_x = level f.x f.radius a.x b.x sides.0 k.x l.x (each_leg k sk).0 (each_leg l sl).0

  level_y : on_y k ≡ 0 → on_y l ≡ 0 → OnY → Level f.y a.y b.y k.y l.y
  level_y = level f.y f.radius a.y b.y sides.1 k.y l.y (each_leg k sk).1 (each_leg l sl).1

  level_z : on_z k ≡ 0 → on_z l ≡ 0 → OnZ → Level f.z a.z b.z k.z l.z
  level_z = level f.z f.radius a.z b.z sides.2 k.z l.z (each_leg k sk).2 (each_leg l sl).2

  on_axes : OnX → OnY → OnZ → (k ≡ l) ⊎ Opposed f a b k l
  on_axes (inl p) (inl q) (inl s) = inl (λ i. record { x = p i; y = q i; z = s i })
  on_axes (inr o) y z =
      let u = by_x k sk o.first in
      let w = by_x l sl o.second in
      inr (inl (o, level_y u.0 w.0 y, level_z u.1 w.1 z))
  on_axes (inl p) (inr o) z =
      let u = by_y k sk o.first in
      let w = by_y l sl o.second in
      inr (inr (inl (level_x u.0 w.0 (inl p), o, level_z u.1 w.1 z)))
  on_axes (inl p) (inl q) (inr o) =
      let u = by_z k sk o.first in
      let w = by_z l sl o.second in
      inr (inr (inr (level_x u.0 w.0 (inl p), level_y u.1 w.1 (inl q), o)))

  one_or_opposed : (k ≡ l) ⊎ Opposed f a b k l
  one_or_opposed =
      on_axes
      (one_axis f.x f.radius a.x b.x sides.0 k.x l.x (each_leg k sk).0 (each_leg l sl).0 sk.shifts.x sl.shifts.x)
      (one_axis f.y f.radius a.y b.y sides.1 k.y l.y (each_leg k sk).1 (each_leg l sl).1 sk.shifts.y sl.shifts.y)
      (one_axis f.z f.radius a.z b.z sides.2 k.z l.z (each_leg k sk).2 (each_leg l sl).2 sk.shifts.z sl.shifts.z)

-- THEOREM. In an accepted frame at most one image of an atom is within the radius of another, or two that are opposite at exactly half an edge.
pub single : (f : Frame) → frame_ok f ≡ true → Single f
single = one_or_opposed

-- THEOREM. Past half a periodic edge a second image does hide: the rule refuses no more than it must.
pub hidden : (e : Side) (radius : ℕ) → e.round ≡ true → 0 < e.edge → e.edge < 2 * radius → Hidden e radius
unfolding away gap
hidden e radius t some past =
    record { here = 0; there = e.edge / 2; inside = (some, omega arith); own = omega arith; before = omega arith }

-- ---- the frame's distance is the nearest image's
module _ (e a b : ℕ) (ha : a < e) (hb : b < e) where
  round_least : (k : ℤ) → distance true e a b ≤ away e a b k
  unfolding distance gap away
  round_least (pos zero) = omega arith
  round_least (pos (suc k)) = omega (arith, many 1 (suc k) e (omega arith))
  round_least (negsuc k) = omega (arith, many 1 (k + 1) e (omega arith))

  round_reached : (k : ℤ) × (away e a b k ≡ distance true e a b)
  unfolding distance gap away
  round_reached =
      ⊎_elim (λ (h : gap a b < e - gap a b). (pos 0, unfold gap away in omega arith))
      (λ (h : e - gap a b ≤ gap a b).
      ⊎_elim (λ (g : a < b). (negsuc 0, unfold gap away in omega arith)) (λ (g : b ≤ a). (pos 1, unfold gap away in omega arith)) (below_or a b))
      (below_or (gap a b) (e - gap a b))

own_place : (e a b : ℕ) → away e a b (pos 0) ≡ distance false e a b
unfolding distance gap away
own_place e a b = omega arith

abbrev Open : Side → ℤ → Type 0
Open e k = e.round ≡ false → k ≡ pos 0

module _ (e : Side) (a b : ℕ) (ha : a < e.edge) (hb : b < e.edge) where
  axis_least : (k : ℤ) → Open e k → along e a b ≤ away_on e a b k
  axis_least k h =
      ⊎_elim (λ (t : e.round ≡ true). rw t (round_least e.edge a b ha hb k))
      (λ (n : e.round ≡ false).
      let p = own_place e.edge a b in rw (n, h n, ← p) (omega arith))
      (true_or_false e.round)

  axis_reached : (k : ℤ) × Open e k × (away_on e a b k ≡ along e a b)
  axis_reached =
      ⊎_elim
      (λ (t : e.round ≡ true).
      let z = round_reached e.edge a b ha hb in (z.0, (λ n. impossible (cc)), rw t z.1))
      (λ (n : e.round ≡ false). (pos 0, (λ _. refl), rw n (own_place e.edge a b)))
      (true_or_false e.round)

squares_rise : {d m : ℕ} → d ≤ m → square_of d ≤ square_of m
squares_rise {d} {m} h = product_small m m h h

-- THEOREM. No image is nearer than the frame's distance, and one is at it.
pub nearest : (f : Frame) (a b : Spot) → Inside f a → Inside f b → Nearest f a b
unfolding squared_of image_squared
nearest f a b ka kb =
    let x = axis_reached f.x a.x b.x ka.x kb.x in
    let y = axis_reached f.y a.y b.y ka.y kb.y in
    let z = axis_reached f.z a.z b.z ka.z kb.z in
    record {
      least =
          λ k h.
          let p = squares_rise (axis_least f.x a.x b.x ka.x kb.x k.x h.x) in
          let q = squares_rise (axis_least f.y a.y b.y ka.y kb.y k.y h.y) in
          let s = squares_rise (axis_least f.z a.z b.z ka.z kb.z k.z h.z) in
          omega arith;
      reached = (
        record { x = x.0; y = y.0; z = z.0 },
        record { x = x.1; y = y.1; z = z.1 },
        rw (x.2, y.2, z.2),
      );
    }

-- ---- what the calls' equations say of images
frame_accepted : (i : Given) (a : Result (Unit {0}) Refusal) → frame_asked i.frame i.coordinates i.exclusions (length i.items) ≡ a → (c : Built) → (after_of i a).answer ≡ answered c
    → (frame_ok i.frame ≡ true) × Framed i.frame i.coordinates
unfolding after_of
frame_accepted i (Err r) e c q = impossible (cc)
frame_accepted i (Ok tt) e c q = (
  asked_accepted i.frame i.coordinates i.exclusions (length i.items) e,
  (asked_passed i.frame i.coordinates i.exclusions (length i.items) e).framed,
)

module _ (i : Given) (framed : Framed i.frame i.coordinates) (p : ℕ × ℕ) where
  abbrev here : Spot
  here = spot_of i.coordinates p.0

  abbrev there : Spot
  there = spot_of i.coordinates p.1

  nearest_of : Two (atoms_of i.coordinates) p → Nearest i.frame here there
  nearest_of t =
      let low = t.0 in
      let high = t.1 in
      nearest i.frame here there (framed.inside p.0 (omega arith)) (framed.inside p.1 high)

  close_sees : Close i p → InSight i p
  close_sees u =
      let z = (nearest_of u.0).reached in
      let h = u.2 in
      (u.0, u.1, (z.0, record { shifts = z.1; near = rw z.2 h }))

  sees_close : InSight i p → Close i p
  sees_close u =
      let m = (nearest_of u.0).least u.2.0 u.2.1.shifts in
      let h = u.2.1.near in
      (u.0, u.1, omega arith)

-- A build that is answered lists exactly the unexcluded pairs of which an image is within the radius, once each, and no second image hides.
pub build_sights : (i : Given) (r : Result Built Refusal) (pairs starts items : List ℕ) → BuildSays i r pairs starts items → BuildSights i r pairs
unfolding build_of
build_sights i r pairs starts items h c q =
    let a = frame_asked i.frame i.coordinates i.exclusions (length i.items) in
    let answer : (after_of i a).answer ≡ answered c = sym (ap (λ (o : Outcome). o.answer) h) ∙ q in
    let z = frame_accepted i a refl c answer in
    record {
      exactly =
          exactly_as (rows (take (2 * c.pairs) pairs)) (build_lists i r pairs starts items h c q).exactly (close_sees i z.1) (sees_close i z.1);
      single = single i.frame z.0;
    }

passed_all : (t : Bool) (x d : ℕ) → cond t (answered x) (refused 3 0) ≡ answered d → t ≡ true
passed_all true x d e = refl
passed_all false x d e = impossible (cc)

pub squared_distance_sights : (f : Frame) (a b : Spot) (r : Result ℕ Refusal) → SquaredSays f a b r → SquaredSights f a b r
unfolding squared_seen
squared_distance_sights f a b r h d q =
    let all = passed_all (frame_ok f && spot_ok f a && spot_ok f b) (squared_of f a b) d (sym h ∙ q) in
    let two = and_both (frame_ok f && spot_ok f a) (spot_ok f b) all in
    let one = and_both (frame_ok f) (spot_ok f a) two.0 in
    (nearest f a b (spot_inside f a one.1) (spot_inside f b two.1), single f one.0)
