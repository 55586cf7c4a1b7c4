-- The loops over atoms side by side: their places, their flags, those whose flag is 1, and what these list. Assumes nothing.
use Prim.Native.Nat.{ℕ, suc, ◌+◌, ◌-◌, ◌≤◌, ◌<◌}
use mathlib.Core.Path.{◌≡◌, refl, sym, ap, ◌∙◌, subst}
use mathlib.Core.Logic.{◌⊎◌, inl, inr}
use mathlib.Core.Bool.{Bool, true, false, cond, ◌&&◌, false≢true}
use mathlib.Core.List.{List, [], ◌∷◌, ◌++◌}
use native.Mathlib.Omega.{arith}
use native.Mathlib.Nat.{eq-or-lt_of_le}
use lib.Dec.{ltb}
use lib.Ieee.{Float, nan, le}
use lib.ListN.{length, get_or, set, take, drop, length-set, length-drop}
use lib.Seq.{get_or-set_same, get_or-set_other, get_or-drop, length-take-le}
use Rattle.float.proofs.Branches.{both_true}
use Rattle.lists.specs.Lists.{keep, with_each, inside}
use Rattle.lists.proofs.Walks.{drop_past, rest_of}
use Rattle.lists.proofs.Exactness.{length_with}
use Rattle.cell.specs.declared.Vec3.{Vec3}
use Rattle.cell.specs.Vec.{position_at}
use Rattle.bins.specs.declared.Tally.{Tally}
use Rattle.bins.specs.Listing.{Scene, Listing, Ready, list_of}
use Rattle.bins.proofs.Runs.{Run, run_inside, ready_inside}
use Rattle.neighbor_listing.specs.declared.sight.Sight.{Sight}
use Rattle.neighbor_listing.specs.Steps.{near_to, scene_by, chosen_by}
use Rattle.neighbor_listing.specs.declared.side.Bounds.{Bounds}
use Rattle.neighbor_listing.specs.declared.side.Reach.{Reach}
use Rattle.neighbor_listing.specs.Sides.{SideRooms, spot_in, LaidOut, Enclosed, is_enclosed, AllEnclosed, Bounded, Framed, Reaches, turned, sees_apart, box_holds, BoxSays, tilted_holds, TiltedSays, sighted, Flagged, Flags, Say, Bits, FlagsTaken}
use Rattle.neighbor_listing.proofs.Sifted.{kept_next, most_one, near_is, few_listed, ready_near}
use Rattle.neighbor_listing.proofs.Shortcuts.{box_turn, tilted_turn, turned_sees}

last_or_before : (m k : ℕ) → m < k + 1 → (m ≡ k) ⊎ (m < k)
last_or_before m k h = eq-or-lt_of_le (below m k h)
  where
    below : (m k : ℕ) → m < k + 1 → m ≤ k
    below m k h = omega arith

apart : (m k : ℕ) → m < k → m ≡ k → ⊥
apart m k h e = omega arith

-- ---- the places
pub laid_begin : {xs bx by bz : List Float} {part : List ℕ} → SideRooms bx by bz → LaidOut xs part bx by bz 0
laid_begin r = record { rooms = r; are = λ m h. absurd (none m h) }
  where
    none : (m : ℕ) → m < 0 → ⊥
    none m h = omega arith

module _ {xs bx by bz : List Float} {part : List ℕ} {k : ℕ} (u : LaidOut xs part bx by bz k) where
  pub laid_turn : k < 64 → {b : Vec3} → b ≡ position_at xs (get_or part k 0) → LaidOut xs part (set bx k b.x) (set by k b.y) (set bz k b.z) (k + 1)
  laid_turn l {b} e =
      record {
        rooms = record { x64 = length-set bx k b.x ∙ u.rooms.x64; y64 = length-set by k b.y ∙ u.rooms.y64; z64 = length-set bz k b.z ∙ u.rooms.z64 };
        are = λ m h. elim (last_or_before m k h) [ inl p ↦ rw p here | inr q ↦ there m q ];
      }
    where
      here : spot_in (set bx k b.x) (set by k b.y) (set bz k b.z) k ≡ position_at xs (get_or part k 0)
      here =
          (λ i. record {
            x = get_or-set_same bx k b.x nan (omega (arith, u.rooms.x64)) i;
            y = get_or-set_same by k b.y nan (omega (arith, u.rooms.y64)) i;
            z = get_or-set_same bz k b.z nan (omega (arith, u.rooms.z64)) i;
          })
          ∙ e

      there : (m : ℕ) → m < k → spot_in (set bx k b.x) (set by k b.y) (set bz k b.z) m ≡ position_at xs (get_or part m 0)
      there m q =
          (λ i. record {
            x = get_or-set_other bx k m b.x nan (apart m k q) i;
            y = get_or-set_other by k m b.y nan (apart m k q) i;
            z = get_or-set_other bz k m b.z nan (apart m k q) i;
          })
          ∙ u.are m q

  pub laid_end : k ≤ length part → length part ≤ k → LaidOut xs part bx by bz (length part)
  laid_end l h = record { rooms = u.rooms; are = λ m p. u.are m (omega (arith, l, h, p)) }

-- ---- the bounds: the first k places are within them
enclosed_is : (w : Bounds) (b : Vec3) → is_enclosed w b ≡ true → Enclosed w b
enclosed_is w b h =
    let A = le w.lo.x b.x in
    let B = le b.x w.hi.x in
    let C = le w.lo.y b.y in
    let D = le b.y w.hi.y in
    let E = le w.lo.z b.z in
    let F = le b.z w.hi.z in
    let p5 = both_true (A && B && C && D && E) F h in
    let p4 = both_true (A && B && C && D) E p5.0 in
    let p3 = both_true (A && B && C) D p4.0 in
    let p2 = both_true (A && B) C p3.0 in
    let p1 = both_true A B p2.0 in
    record { x_low = p1.0; x_high = p1.1; y_low = p2.1; y_high = p3.1; z_low = p4.1; z_high = p5.1 }

pub enclosed_begin : {bx by bz : List Float} {w : Bounds} → AllEnclosed bx by bz 0 w true
enclosed_begin = record { are = λ e m h. absurd (none m h) }
  where
    none : (m : ℕ) → m < 0 → ⊥
    none m h = omega arith

module _ {bx by bz : List Float} {k : ℕ} {w : Bounds} {ok : Bool} (u : AllEnclosed bx by bz k w ok) where
  pub enclosed_turn : {r : Bool} → r ≡ is_enclosed w (spot_in bx by bz k) → AllEnclosed bx by bz (k + 1) w (ok && r)
  enclosed_turn {r} e =
      record {
        are =
            λ t m h.
            let p = both_true ok r t in
            elim (last_or_before m k h) [ inl z ↦ rw z (enclosed_is w (spot_in bx by bz k) (sym e ∙ p.1)) | inr z ↦ u.are p.0 m z ];
      }

  pub enclosed_end : (n : ℕ) → n ≤ k → AllEnclosed bx by bz n w ok
  enclosed_end n h = record { are = λ t m q. u.are t m (omega (arith, h, q)) }

-- .. as the code puts them together
pub bounds_are : {bx by bz : List Float} {k : ℕ} {w : Bounds} {r : Bool} → AllEnclosed bx by bz k w r → Bounded bx by bz k (record { lo = w.lo; hi = w.hi; sound = r })
bounds_are u =
    record {
      are =
          λ t m h.
          let v = u.are t m h in
          record { x_low = v.x_low; x_high = v.x_high; y_low = v.y_low; y_high = v.y_high; z_low = v.z_low; z_high = v.z_high };
    }

-- ---- .. of a part's atoms
pub unframed : {xs : List Float} {part : List ℕ} {lo hi : Vec3} → Framed xs part (record { lo = lo; hi = hi; sound = false })
unframed = record { are = λ t. absurd (false≢true t) }

pub laid_framed : {xs bx by bz : List Float} {part : List ℕ} {w : Bounds} → LaidOut xs part bx by bz (length part) → Bounded bx by bz (length part) w → Framed xs part w
laid_framed {w = w} u n = record { are = λ t m h. subst (λ (b : Vec3). Enclosed w b) (u.are m h) (n.are t m h) }

-- ---- the flags: those from `from` up to k are set
pub record Flagging (s : Sight) (i : ℕ) (a : Vec3) (part : List ℕ) (bx by bz : List Float) (start now : List ℕ) (from k : ℕ) (ok : Bool) : Type 0 where
  pub begun : from ≤ k
  pub within : k ≤ length part
  pub same : length now ≡ length start
  pub hold : ok ≡ true → Flagged s i a part bx by bz from k now

module _ {s : Sight} {i : ℕ} {a : Vec3} {part : List ℕ} {bx by bz : List Float} {start : List ℕ} {from : ℕ} where
  pub flagging_begin : from ≤ length part → Flagging s i a part bx by bz start start from from true
  flagging_begin h = record { begun = omega arith; within = h; same = refl; hold = λ e. record { are = λ m p q. absurd (none m p q) } }
    where
      none : (m : ℕ) → from ≤ m → m < from → ⊥
      none m p q = omega arith

  module _ {now : List ℕ} {k : ℕ} {ok : Bool} (u : Flagging s i a part bx by bz start now from k ok) where
    flagging_turn : k < length part → k < length now → {r holds : Bool} {v : ℕ} → (holds ≡ true → r ≡ sighted s i a (get_or part k 0) (spot_in bx by bz k)) → v ≡ cond r 1 0
        → Flagging s i a part bx by bz start (set now k v) from (k + 1) (ok && holds)
    flagging_turn h l {r} {holds} {v} w e =
        record {
          begun = omega (arith, u.begun);
          within = omega arith;
          same = length-set now k v ∙ u.same;
          hold =
              λ t.
              let p = both_true ok holds t in
              record { are = λ m f q. elim (last_or_before m k q) [ inl z ↦ rw z (get_or-set_same now k v 0 l ∙ e ∙ ap (λ (b : Bool). cond b 1 0) (w p.1)) | inr z ↦ get_or-set_other now k m v 0 (apart m k z) ∙ (u.hold p.0).are m f z ] };
        }

    pub box_flagged : k < length part → k < length now → {r holds : Bool} {v : ℕ} → BoxSays s a (spot_in bx by bz k) r → holds ≡ box_holds s a (spot_in bx by bz k) → v ≡ cond r 1 0
        → Flagging s i a part bx by bz start (set now k v) from (k + 1) (ok && holds)
    box_flagged h l n e f = flagging_turn h l (box_turn n e (ltb i (get_or part k 0))) f

    pub tilted_flagged : k < length part → k < length now → {d : Vec3} → d ≡ turned true a (spot_in bx by bz k) → {r holds : Bool} {v : ℕ} → TiltedSays s d r → holds ≡ tilted_holds s d → v ≡ cond r 1 0
        → Flagging s i a part bx by bz start (set now k v) from (k + 1) (ok && holds)
    tilted_flagged h l g n e f = flagging_turn h l (tilted_turn n e (ltb i (get_or part k 0)) a (spot_in bx by bz k) g) f

    -- one step for all of them
    pub reached_flagged : k < length part → k < length now → {see : Sight → Vec3 → Vec3 → Vec3 → Bool} {r : Reach} → Reaches see s a bx by bz (length part) r → r.single ≡ true → {q : Bool} {v : ℕ} → q ≡ see s a r.step (spot_in bx by bz k) → v ≡ cond q 1 0
        → Flagging s i a part bx by bz start (set now k v) from (k + 1) (ok && true)
    reached_flagged h l n t {q} {v} e f = flagging_turn h l {r = q} {holds = true} {v = v} (λ z. e ∙ n.sees t k h (ltb i (get_or part k 0))) f

    pub flagging_end : length part ≤ k → Flags s i a part bx by bz from (length part) now ok
    flagging_end h = record { hold = λ e. record { are = λ m f q. (u.hold e).are m f (omega (arith, u.within, h, q)) } }

-- ---- those whose flag is 1
pub record Taking (part flags start now : List ℕ) (from count k : ℕ) : Type 0 where
  pub within : k ≤ length part
  pub few : from + count ≤ k
  pub same : length now ≡ length start
  pub are : (q : ℕ → Bool) → Say q part from flags → take count now ++ keep q (drop k part) ≡ keep q (drop from part)

pub taking_begin : (part flags start : List ℕ) (from : ℕ) → from ≤ length part → Taking part flags start start from 0 from
taking_begin part flags start from h = record { within = h; few = omega arith; same = refl; are = λ q w. refl }

module _ {part flags start now : List ℕ} {from count k : ℕ} (u : Taking part flags start now from count k) where
  pub taking_turn : k < length part → count < length now → get_or flags k 0 ≤ 1 → Taking part flags start (set now count (get_or part k 0)) from (count + get_or flags k 0) (k + 1)
  taking_turn h l o =
      record {
        within = omega arith;
        few = omega (arith, u.few, o);
        same = length-set now count (get_or part k 0) ∙ u.same;
        are = λ q w. rw (w k (omega (arith, u.few)) h) (kept_next q part now count k h l (q (get_or part k 0)) refl) ∙ u.are q w;
      }

  pub taking_end : length part ≤ k → FlagsTaken part from flags count now
  unfolding keep
  taking_end h = record { few = omega (arith, u.few, u.within, h); are = λ q w. sym (rw (drop_past part k h) (append_nil (take count now))) ∙ u.are q w }
    where
      append_nil : (l : List ℕ) → l ++ [] ≡ l
      append_nil [] = refl
      append_nil (a ∷ l) = ap (λ (t : List ℕ). a ∷ t) (append_nil l)

-- ---- what an atom lists of a part from `from` on
module _ (s : Sight) (xs : List Float) (i : ℕ) (part : List ℕ) {bx by bz : List Float} (from : ℕ) (flags : List ℕ) {a : Vec3} (ea : a ≡ position_at xs i) (u : LaidOut xs part bx by bz (length part)) {r : Bool} (w : Flags s i a part bx by bz from (length part) flags r) (ok : r ≡ true) where
  pub flags_say : Say (near_to s xs i) part from flags
  flags_say m f h =
      (w.hold ok).are m f h
      ∙ ap (λ (b : Bool). cond b 1 0)
      (near_is s xs i (get_or part m 0) (ltb i (get_or part m 0)) refl ea (u.are m h) (turned_sees s (ltb i (get_or part m 0)) a (spot_in bx by bz m)))

  pub flags_bits : Bits part from flags
  flags_bits = record { small = λ m f h. rw (flags_say m f h) (most_one (near_to s xs i (get_or part m 0))) }

  module _ {count : ℕ} {room : List ℕ} (g : FlagsTaken part from flags count room) where
    pub kept_near : take count room ≡ keep (near_to s xs i) (drop from part)
    kept_near = g.are (near_to s xs i) flags_say

    pub kept_ready : {t : Tally} → Ready t (length (with_each i (drop from part))) → Ready t (length (with_each i (take count room)))
    kept_ready h = ready_near i (near_to s xs i) (take count room) (drop from part) kept_near h

    pub side_listed : (tops table : List ℕ) (t q : Tally) (old new : List ℕ)
        → record { tally = q; mem = new } ≡ list_of (chosen_by tops table) (record { tally = t; mem = old }) (with_each i (take count room))
        → record { tally = record { count = q.count; checks = t.checks + (length part - from) }; mem = new } ≡ list_of (scene_by s xs tops table) (record { tally = t; mem = old }) (with_each i (drop from part))
    side_listed tops table t q old new e = rw (← length-drop from part) (few_listed s xs tops table i (drop from part) (take count room) t q old new kept_near e)

-- ---- none of them is near
keep_none : (q : ℕ → Bool) (l : List ℕ) → ((m : ℕ) → m < length l → q (get_or l m 0) ≡ false) → keep q l ≡ []
unfolding keep
keep_none q [] h = refl
keep_none q (a ∷ l) h = rw (h 0 (omega arith)) (keep_none q l (λ m p. h (suc m) (omega (arith, p))))

module _ (s : Sight) (xs : List Float) (i : ℕ) (part : List ℕ) {bx by bz : List Float} (from : ℕ) {a : Vec3} (ea : a ≡ position_at xs i) (u : LaidOut xs part bx by bz (length part))
    (w : (m : ℕ) → m < length part → (rising : Bool) → sees_apart s (turned rising a (spot_in bx by bz m)) ≡ false)
  where
    none_near : keep (near_to s xs i) (drop from part) ≡ []
    none_near =
        keep_none (near_to s xs i) (drop from part)
        (λ m h.
        let l : from + m < length part = omega (arith, length-drop from part, h) in
        let j = get_or part (from + m) 0 in
        ap (near_to s xs i) (get_or-drop from part m 0)
        ∙ sym (near_is s xs i j (ltb i j) refl ea (u.are (from + m) l) (turned_sees s (ltb i j) a (spot_in bx by bz (from + m))))
        ∙ w (from + m) l (ltb i j))

    pub none_listed : (tops table : List ℕ) (t : Tally) (old : List ℕ)
        → record { tally = record { count = t.count; checks = t.checks + (length part - from) }; mem = old } ≡ list_of (scene_by s xs tops table) (record { tally = t; mem = old }) (with_each i (drop from part))
    unfolding with_each
    none_listed tops table t old = rw (← length-drop from part) (few_listed s xs tops table i (drop from part) [] t t old old (sym none_near) refl)

-- the front of a room of 64
module _ {part flags room : List ℕ} {from count : ℕ} (g : FlagsTaken part from flags count room) (h : length part ≤ 64) (l : length room ≡ 64) where
  pub taken_within : count ≤ length room
  taken_within = omega (arith, g.few, h, l)

  pub taken_count : count ≡ length (take count room)
  taken_count = sym (length-take-le count room taken_within)

-- from a memory that is as it was
pub kept_memory : (e : Scene) (t : Tally) (c : List (ℕ × ℕ)) {old mid : List ℕ} {r : Listing} → mid ≡ old → r ≡ list_of e (record { tally = t; mem = mid }) c → r ≡ list_of e (record { tally = t; mem = old }) c
kept_memory e t c k q = q ∙ ap (λ (m : List ℕ). list_of e (record { tally = t; mem = m }) c) k

-- ---- a part from `from` on, which a slice has as the front of its rest
module _ (i : ℕ) (part : List ℕ) (from : ℕ) where
  pub rest_ready : {t : Tally} → Ready t (length (with_each i (drop from part))) → Ready t (length (with_each i (take (length part - from) (drop from part))))
  rest_ready h = rw (rest_of part from) h

  pub rest_listed : (e : Scene) (s : Listing) {r : Listing} → r ≡ list_of e s (with_each i (take (length part - from) (drop from part))) → r ≡ list_of e s (with_each i (drop from part))
  rest_listed e s q = rw (rest_of part from) at q

  -- .. from a memory that is as it was
  pub kept_listed : (e : Scene) (t : Tally) {old mid : List ℕ} {r : Listing} → mid ≡ old → r ≡ list_of e (record { tally = t; mem = mid }) (with_each i (take (length part - from) (drop from part)))
      → r ≡ list_of e (record { tally = t; mem = old }) (with_each i (drop from part))
  kept_listed e t {old} {mid} k q = kept_memory e t (with_each i (drop from part)) k (rest_listed e (record { tally = t; mem = mid }) q)

  -- the checks have room for it
  pub rest_fits : {t : Tally} → Ready t (length (with_each i (drop from part))) → t.checks + (length part - from) < 4294967296
  rest_fits h = omega (arith, h.checks, length_with i (drop from part), length-drop from part)

module _ (home : List ℕ) (k : ℕ) (h : k < length home) where
  pub inside_ready : {t : Tally} → Ready t (length (inside (drop k home))) → Ready t (length (with_each (get_or home k 0) (drop (k + 1) home)))
  inside_ready r = rw (rest_of home (k + 1)) at (ready_inside home [] k h r)

  pub inside_run : {e : Scene} {s₀ s : Listing} {all : List (ℕ × ℕ)} (r : Listing) → Run e s₀ s all (inside (drop k home)) → r ≡ list_of e s (with_each (get_or home k 0) (drop (k + 1) home)) → Run e s₀ r all (inside (drop (k + 1) home))
  inside_run r u q = run_inside home [] k h r u (rw (rest_of home (k + 1)) q)
