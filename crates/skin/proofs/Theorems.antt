-- A kept list misses nothing while `within_skin` says yes. Assumes nothing.
use Rattle.std.specs.Prelude.{Result}
use Rattle.answer.specs.declared.Refusal.{Refusal}
use Rattle.frame.specs.declared.Built.{Built}
use Prim.Native.Nat.{ℕ, ◌+◌, ◌*◌, ◌/◌, ◌≤◌, ◌<◌}
use native.Mathlib.Omega.{arith}
use mathlib.Core.Path.{◌≡◌, refl, sym, ◌∙◌, subst}
use mathlib.Core.Bool.{Bool, true, false, cond, ◌&&◌}
use mathlib.Core.List.{List}
use mathlib.Core.Logic.{⊎_elim}
use lib.ListN.{length}
use lib.Dec.{ltb}
use borrow.Author.Tests.{leb-true, le-leb}
use native.Mathlib.Nat.{zero-add}
use Rattle.answer.specs.Seen.{answered, refused}
use Rattle.lists.specs.Atoms.{atoms_of, most_atoms}
use Rattle.lists.specs.Lists.{up_to, keep}
use Rattle.lists.proofs.Cases.{and_both, impossible, true_or_false, below_or}
use Rattle.lists.proofs.Exactness.{numbers_at, length_up_to, exactly_keep, exactly_as, equally_long, many_keep}
use Rattle.lists.proofs.Walks.{every_at}
use Rattle.bins.specs.Edge.{gap, distance}
use Rattle.frame.specs.declared.Side.{Side}
use Rattle.frame.specs.declared.Frame.{Frame}
use Rattle.frame.specs.declared.Spot.{Spot}
use Rattle.frame.specs.Distance.{spot_of, along, square_of, squared_of, near_of}
use Rattle.frame.specs.Build.{Given, ranges_ok, BuildSays}
use Rattle.frame.specs.Listed.{Close, Listed}
use Rattle.frame.specs.Steps.{Inside, Framed}
use Rattle.frame.proofs.Ranges.{ranges_framed}
use Rattle.frame.proofs.Outcomes.{build_lists}
use Rattle.skin.specs.Skin.{widened, moved_little, all_moved_little, counts_differ, skin_seen, WithinSkinSays}
use Rattle.skin.specs.Lengths.{length_squared}
use Rattle.skin.specs.Theorems.{now_given, kept_rows, near_now, Enough, SkinEnough, Missed, RunEnough}
use Rattle.skin.proofs.Lengths.{metric, minkowski, squares_rise}
use Rattle.skin.proofs.Skin.{little_within, counts_same}

-- ---- along an axis: two atoms were no further apart than they are now, and what each of them moved
module _ (e : Side) (a b p q : ℕ) (ha : a < e.edge) (hb : b < e.edge) (hp : p < e.edge) (hq : q < e.edge) where
  pub once_apart : along e a b ≤ along e p q + (along e a p + along e b q)
  once_apart =
      omega (arith, (metric e).triangle a p b ha hp hb, (metric e).triangle p q b hp hq hb, (metric e).turned b q)

-- ---- two ways of half the skin each are together within the skin
halves : (a b c x y z s : ℕ) → 4 * length_squared a b c ≤ square_of s → 4 * length_squared x y z ≤ square_of s → length_squared (a + x) (b + y) (c + z) ≤ square_of s
halves a b c x y z s h k =
    omega (arith, minkowski (2 * a) (2 * b) (2 * c) (2 * x) (2 * y) (2 * z) s s (omega arith) (omega arith))

-- ---- in a frame: a and b have moved little, to p and q, which are within the cutoff
module _ (f : Frame) (skin : ℕ) (a b p q : Spot) (ka : Inside f a) (kb : Inside f b) (kp : Inside f p) (kq : Inside f q) where
  abbrev gap_x : ℕ
  gap_x = along f.x p.x q.x

  abbrev gap_y : ℕ
  gap_y = along f.y p.y q.y

  abbrev gap_z : ℕ
  gap_z = along f.z p.z q.z

  abbrev way_x : ℕ
  way_x = along f.x a.x p.x + along f.x b.x q.x

  abbrev way_y : ℕ
  way_y = along f.y a.y p.y + along f.y b.y q.y

  abbrev way_z : ℕ
  way_z = along f.z a.z p.z + along f.z b.z q.z

  ways_within : 4 * squared_of f a p ≤ square_of skin → 4 * squared_of f b q ≤ square_of skin → length_squared way_x way_y way_z ≤ square_of skin
  unfolding squared_of
  ways_within h k =
      halves (along f.x a.x p.x) (along f.y a.y p.y) (along f.z a.z p.z) (along f.x b.x q.x) (along f.y b.y q.y)
      (along f.z b.z q.z) skin h k

  together : (m : ℕ) → squared_of f p q ≤ square_of m → length_squared way_x way_y way_z ≤ square_of skin → length_squared (gap_x + way_x) (gap_y + way_y) (gap_z + way_z) ≤ square_of (m + skin)
  unfolding squared_of
  together m h k = minkowski gap_x gap_y gap_z way_x way_y way_z m skin h k

  before_now : squared_of f a b ≤ length_squared (gap_x + way_x) (gap_y + way_y) (gap_z + way_z)
  unfolding squared_of
  before_now =
      let x = squares_rise (along f.x a.x b.x) (gap_x + way_x) (once_apart f.x a.x b.x p.x q.x ka.x kb.x kp.x kq.x) in
      let y = squares_rise (along f.y a.y b.y) (gap_y + way_y) (once_apart f.y a.y b.y p.y q.y ka.y kb.y kp.y kq.y) in
      let z = squares_rise (along f.z a.z b.z) (gap_z + way_z) (once_apart f.z a.z b.z p.z q.z ka.z kb.z kp.z kq.z) in
      sums x y z
    where
      sums : {r s t u v w : ℕ} → r ≤ u → s ≤ v → t ≤ w → r + s + t ≤ u + v + w
      sums h k l = omega arith

  -- they were within the cutoff and the skin
  pub were_near : (m : ℕ) → 4 * squared_of f a p ≤ square_of skin → 4 * squared_of f b q ≤ square_of skin → squared_of f p q ≤ square_of m → squared_of f a b ≤ square_of (m + skin)
  were_near m h k l = omega (arith, before_now, together m l (ways_within h k))

-- ---- what a yes shows
pub record Stayed (f : Frame) (skin : ℕ) (old new : List ℕ) : Type 0 where
  pub count : length old / 3 ≡ length new / 3
  pub before : Framed (widened f skin) old
  pub after : Framed (widened f skin) new
  pub little : (i : ℕ) → i < length old / 3 → 4 * squared_of f (spot_of old i) (spot_of new i) ≤ square_of skin

after_all : (s t u v : Bool) (n : ℕ) → cond s (refused 1 0) (cond t (refused 2 n) (cond u (answered v) (refused 3 0))) ≡ answered true
    → (s ≡ false) × (u ≡ true) × (v ≡ true)
after_all true t u v n e = impossible (cc)
after_all false true u v n e = impossible (cc)
after_all false false false v n e = impossible (cc)
after_all false false true v n e = (refl, refl, cc)

module _ (f : Frame) (skin : ℕ) (old new : List ℕ) (h : skin_seen f skin old new ≡ answered true) where
  yes_parts : (counts_differ (length old) (length new) ≡ false) × (ranges_ok (widened f skin) old && ranges_ok (widened f skin) new ≡ true) × (all_moved_little f skin old new ≡ true)
  unfolding skin_seen
  yes_parts =
      after_all (counts_differ (length old) (length new)) (ltb most_atoms (atoms_of old)) (ranges_ok (widened f skin) old && ranges_ok (widened f skin) new)
      (all_moved_little f skin old new) (atoms_of old) h

  yes_little : (i : ℕ) → i < length old / 3 → moved_little f skin (spot_of old i) (spot_of new i) ≡ true
  unfolding all_moved_little
  yes_little i l =
      rw (numbers_at 0 (length old / 3) i l, zero-add i) at (every_at 0 (λ k. moved_little f skin (spot_of old k) (spot_of new k)) (up_to (length old / 3)) yes_parts.2 i (rw length_up_to l))

  pub yes_stayed : Stayed f skin old new
  yes_stayed =
      let r = and_both (ranges_ok (widened f skin) old) (ranges_ok (widened f skin) new) yes_parts.1 in
      record {
        count = counts_same (length old) (length new) yes_parts.0;
        before = ranges_framed (widened f skin) old r.0;
        after = ranges_framed (widened f skin) new r.1;
        little = λ i l. little_within f skin (spot_of old i) (spot_of new i) (yes_little i l);
      }

-- ---- the theorem
-- distances do not ask for the radius
same_box_lem : (f : Frame) (skin : ℕ) (a b : Spot) → squared_of (widened f skin) a b ≡ squared_of f a b
unfolding squared_of
same_box_lem f skin a b = refl

same_inside : (f : Frame) (skin : ℕ) (a : Spot) → Inside (widened f skin) a → Inside f a
same_inside f skin a k = record { x = k.x; y = k.y; z = k.z }

module _ (f : Frame) (skin : ℕ) (i : Given) (new : List ℕ) (same : i.frame ≡ widened f skin) (stayed : Stayed f skin i.coordinates new) where
  -- a pair within the cutoff now was within cutoff and skin
  was_close : (p : ℕ × ℕ) → Close (now_given f i new) p → Close i p
  was_close p u =
      let n = stayed.count in
      let low : p.0 < p.1 = u.0.0 in
      let high : p.1 < length new / 3 = u.0.1 in
      let first : p.0 < length new / 3 = omega arith in
      let high-old : p.1 < length i.coordinates / 3 = omega arith in
      let first-old : p.0 < length i.coordinates / 3 = omega arith in
      let a = spot_of i.coordinates p.0 in
      let b = spot_of i.coordinates p.1 in
      let near =
      were_near f skin a b (spot_of new p.0) (spot_of new p.1) (same_inside f skin a (stayed.before.inside p.0 first-old))
      (same_inside f skin b (stayed.before.inside p.1 high-old)) (same_inside f skin (spot_of new p.0) (stayed.after.inside p.0 first))
      (same_inside f skin (spot_of new p.1) (stayed.after.inside p.1 high)) f.radius (stayed.little p.0 first-old) (stayed.little p.1 high-old) u.2 in
      ((low, high-old), u.1, rw (same, same_box_lem f skin a b) near)

  near_close : (p : ℕ × ℕ) → Close i p × (near_now f new p ≡ true) → Close (now_given f i new) p
  unfolding near_of
  near_close p u =
      let n = stayed.count in
      let high = u.0.0.1 in
      ((u.0.0.0, omega arith), u.0.1, leb-true (squared_of f (spot_of new p.0) (spot_of new p.1)) (square_of f.radius) u.1)

  close_near : (p : ℕ × ℕ) → Close (now_given f i new) p → Close i p × (near_now f new p ≡ true)
  unfolding near_of
  close_near p u = (was_close p u, le-leb (squared_of f (spot_of new p.0) (spot_of new p.1)) (square_of f.radius) u.2)

  pub enough : (c : Built) (pairs : List ℕ) → Listed i c pairs → Enough f i c pairs new
  enough c pairs l =
      let exact = exactly_as (keep (near_now f new) (kept_rows c pairs)) (exactly_keep (near_now f new) (kept_rows c pairs) l.exactly) near_close close_near in
      record {
        listed = λ p u. l.exactly.complete p (was_close p u);
        exactly = exact;
        counted = λ rows-now e. equally_long rows-now (keep (near_now f new) (kept_rows c pairs)) e exact ∙ sym (many_keep (near_now f new) (kept_rows c pairs));
      }

-- THEOREM. Where a build at cutoff plus skin was answered and `within_skin` says yes, each unexcluded pair now within the cutoff is a row of the old list.
pub skin_enough : (f : Frame) (skin : ℕ) (i : Given) (r : Result Built Refusal) (pairs starts items new : List ℕ) (a : Result Bool Refusal) → BuildSays i r pairs starts items
    → WithinSkinSays f skin i.coordinates new a → SkinEnough f skin i r pairs new a
skin_enough f skin i r pairs starts items new a h w same c q said =
    enough f skin i new same (yes_stayed f skin i.coordinates new (sym w ∙ said)) c pairs (build_lists i r pairs starts items h c q)

-- THEOREM. So a whole run may keep the list, each frame held against the build's coordinates.
pub run_enough : (f : Frame) (skin : ℕ) (i : Given) (r : Result Built Refusal) (pairs starts items : List ℕ) (run : List (List ℕ)) → BuildSays i r pairs starts items
    → RunEnough f skin i r pairs run
run_enough f skin i r pairs starts items run h same c q said new m =
    enough f skin i new same (yes_stayed f skin i.coordinates new (said new m)) c pairs (build_lists i r pairs starts items h c q)

-- ---- past the condition
past_half : (skin move : ℕ) → square_of skin < 4 * square_of move → skin < 2 * move
past_half skin move h =
    ⊎_elim (λ (l : skin < 2 * move). l) (λ (l : 2 * move ≤ skin). absurd (omega (arith, h, squares_rise (2 * move) skin l))) (below_or skin (2 * move))

-- an axis that is as long as twice the way has the plain distance on it
plain_along : (e : Side) (a d : ℕ) → 2 * d ≤ e.edge → (along e a (a + d) ≡ d) × (along e (a + d) a ≡ d)
unfolding distance gap
plain_along e a d h =
    ⊎_elim (λ (t : e.round ≡ true). (rw t (omega arith), rw t (omega arith))) (λ (n : e.round ≡ false). (rw n (omega arith), rw n (omega arith)))
    (true_or_false e.round)

-- THEOREM. Where four times the square of a move is past the squared skin, two atoms that make it can be missed: the condition asks no more than it must.
pub missed : (e : Side) (cutoff skin move : ℕ) → square_of skin < 4 * square_of move → 2 * (cutoff + 2 * move) ≤ e.edge → Missed e cutoff skin move
missed e cutoff skin move h room =
    let half = past_half skin move h in
    let far = (plain_along e 0 (cutoff + 2 * move) room).0 in
    let close = (plain_along e move cutoff (omega arith)).0 in
    record {
      here = 0;
      there = 0 + (cutoff + 2 * move);
      here_now = 0 + move;
      there_now = move + cutoff;
      inside = (omega arith, omega arith, omega arith, omega arith);
      moves = (
        (plain_along e 0 move (omega arith)).0,
        subst (λ (n : ℕ). along e n (move + cutoff) ≡ move) {x = (move + cutoff) + move} {y = 0 + (cutoff + 2 * move)} (omega arith) (plain_along e (move + cutoff) move (omega arith)).1,
      );
      before = omega arith;
      after = subst (λ (n : ℕ). along e n (move + cutoff) ≤ cutoff) {x = move} {y = 0 + move} (omega arith) (omega arith);
    }
