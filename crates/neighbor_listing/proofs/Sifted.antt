-- The near ones of a part, gathered at a room's front, list what the part lists. Assumes nothing.
use Prim.Native.Nat.{ℕ, ◌+◌, ◌≤◌, ◌<◌, min, max}
use mathlib.Core.Path.{◌≡◌, refl, sym, ap, ◌∙◌}
use mathlib.Core.Bool.{Bool, true, false, cond, not, ◌&&◌}
use mathlib.Core.List.{List, [], ◌∷◌, ◌++◌, map}
use native.Mathlib.Omega.{arith}
use native.Mathlib.Nat.{add-zero}
use native.Mathlib.Numerals.{add-one}
use lib.Dec.{ltb}
use lib.Ieee.{Float}
use lib.ListN.{length, get_or, set, take, drop, length-set, length-append, get_or-append}
use lib.Seq.{take-suc-set, take-set-le, append_snoc, take-append-le, length-take-le}
use borrow.Author.Tests.{ltb-true, ltb-false}
use Rattle.std.proofs.lemmas.List.{get_or-append-add}
use Rattle.cell.specs.Vec.{position_at}
use Rattle.lists.specs.Lists.{keep, ordered, with_each}
use Rattle.lists.proofs.Cases.{by_test}
use Rattle.lists.proofs.Walks.{drop_next, drop_past}
use Rattle.lists.proofs.Exactness.{length_with, length_keep}
use Rattle.cell.specs.declared.Vec3.{Vec3}
use Rattle.bins.specs.declared.Tally.{Tally}
use Rattle.bins.specs.Listing.{Scene, Listing, pushed, consider_of, list_of, Ready, Below}
use Rattle.bins.proofs.Runs.{Run, run_part, ready_first, ready_less}
use Rattle.candidates.specs.Checks.{lazy}
use Rattle.neighbor_listing.specs.declared.sight.Sight.{Sight}
use Rattle.neighbor_listing.specs.Steps.{sees_of, looked_in, looked_by, scene_by, chosen_by, near_to, Gathered}

-- ---- the loop that gathers: the first k are passed, `count` of them are near
pub record Sifting (q : ℕ → Bool) (part start now : List ℕ) (count k : ℕ) : Type 0 where
  pub within : k ≤ length part
  pub few : count ≤ k
  pub same : length now ≡ length start
  pub are : take count now ++ keep q (drop k part) ≡ keep q part

pub sifting_begin : {q : ℕ → Bool} (part start : List ℕ) → Sifting q part start start 0 0
sifting_begin part start = record { within = omega arith; few = omega arith; same = refl; are = refl }

pub kept_next : (q : ℕ → Bool) (part now : List ℕ) (count k : ℕ) → k < length part → count < length now → (b : Bool) → b ≡ q (get_or part k 0)
    → take (count + cond b 1 0) (set now count (get_or part k 0)) ++ keep q (drop (k + 1) part) ≡ take count now ++ keep q (drop k part)
unfolding keep
kept_next q part now count k h l true e =
    rw (add-one count, take-suc-set now count (get_or part k 0) l, drop_next 0 part k h, ← e) (append_snoc (take count now) (get_or part k 0) (keep q (drop (k + 1) part)))
kept_next q part now count k h l false e = rw (add-zero count, take-set-le count now count (get_or part k 0) (omega arith), drop_next 0 part k h, ← e)

pub most_one : (b : Bool) → cond b 1 0 ≤ 1
most_one true = omega arith
most_one false = omega arith

module _ {q : ℕ → Bool} {part start now : List ℕ} {count k : ℕ} (u : Sifting q part start now count k) where
  pub sifting_turn : k < length part → count < length now → {b : Bool} {v : ℕ} → b ≡ q (get_or part k 0) → v ≡ cond b 1 0 → Sifting q part start (set now count (get_or part k 0)) (count + v) (k + 1)
  sifting_turn h l {b} {v} e f =
      record {
        within = omega arith;
        few = omega (arith, u.few, f, most_one b);
        same = length-set now count (get_or part k 0) ∙ u.same;
        are = rw f (kept_next q part now count k h l b e) ∙ u.are;
      }

  pub sifting_end : length part ≤ k → Gathered q part count now
  unfolding keep
  sifting_end h = record { few = omega (arith, u.few, u.within); are = sym (rw (drop_past part k h) (append_nil (take count now))) ∙ u.are }
    where
      append_nil : (l : List ℕ) → l ++ [] ≡ l
      append_nil [] = refl
      append_nil (a ∷ l) = ap (λ (t : List ℕ). a ∷ t) (append_nil l)

-- ---- one near pair, for the code: excluded, or listed
module _ (tops table : List ℕ) (s : Listing) (i j : ℕ) {low high : ℕ} (lo : low ≡ min i j) (hi : high ≡ max i j) {x : Bool} (is : x ≡ looked_in tops table low high) where
  pub pair_skipped : x ≡ true → s ≡ consider_of (chosen_by tops table) s (ordered i j)
  unfolding consider_of chosen_by ordered
  pair_skipped e = rw (← lo, ← hi, ← is, e)

  pub pair_listed : x ≡ false → (m : List ℕ) → m ≡ pushed s.mem s.tally.count low high
      → record { tally = record { count = s.tally.count + 1; checks = s.tally.checks + 1 }; mem = m } ≡ consider_of (chosen_by tops table) s (ordered i j)
  unfolding consider_of chosen_by ordered
  pair_listed e m q = rw (← lo, ← hi, ← is, e, q)

-- the near test of the code, low minus high
pub near_is : (v : Sight) (xs : List Float) (i j : ℕ) (rising : Bool) → rising ≡ ltb i j → {a b : Vec3} → a ≡ position_at xs i → b ≡ position_at xs j → {x : Bool} → x ≡ sees_of v (cond rising a b) (cond rising b a) → x ≡ near_to v xs i j
unfolding near_to
near_is v xs i j true e ea eb is =
    let l : i < j = ltb-true i j (sym e) in
    let p : min i j ≡ i = omega arith in
    let q : max i j ≡ j = omega arith in
    rw (p, q, ← ea, ← eb) is
near_is v xs i j false e ea eb is =
    let l : j ≤ i = ltb-false i j (sym e) in
    let p : min i j ≡ j = omega arith in
    let q : max i j ≡ i = omega arith in
    rw (p, q, ← ea, ← eb) is

-- ---- the same count and memory, whatever the checks
pub record Alike (a b : Listing) : Type 0 where
  pub count : a.tally.count ≡ b.tally.count
  pub mem : a.mem ≡ b.mem

module _ (v : Sight) (xs : List Float) (tops table : List ℕ) (i : ℕ) where
  far_alike : (j : ℕ) (a b : Listing) → near_to v xs i j ≡ false → Alike a b → Alike (consider_of (scene_by v xs tops table) a (ordered i j)) b
  unfolding consider_of scene_by looked_by lazy near_to ordered
  far_alike j a b e w = rw e (record { count = w.count; mem = w.mem })

  near_alike : (j : ℕ) (a b : Listing) → near_to v xs i j ≡ true → Alike a b → Alike (consider_of (scene_by v xs tops table) a (ordered i j)) (consider_of (chosen_by tops table) b (ordered i j))
  unfolding consider_of scene_by looked_by chosen_by lazy near_to ordered
  near_alike j a b e w =
      rw e
      (by_test
      (λ x. Alike
      (cond (not x)
      (record { tally = record { count = a.tally.count + 1; checks = a.tally.checks + 1 }; mem = pushed a.mem a.tally.count (min i j) (max i j) })
      (record { tally = record { count = a.tally.count; checks = a.tally.checks + 1 }; mem = a.mem }))
      (cond x b (record { tally = record { count = b.tally.count + 1; checks = b.tally.checks + 1 }; mem = pushed b.mem b.tally.count (min i j) (max i j) })))
      (looked_in tops table (min i j) (max i j))
      (λ _. record { count = w.count; mem = w.mem })
      (λ _. record { count = ap (λ (n : ℕ). n + 1) w.count; mem = rw (w.count, w.mem) }))

  checks_step : (j : ℕ) (a : Listing) → (consider_of (scene_by v xs tops table) a (ordered i j)).tally.checks ≡ a.tally.checks + 1
  unfolding consider_of scene_by lazy
  checks_step j a =
      by_test
      (λ x. (cond {A = Listing} x
      (record { tally = record { count = a.tally.count + 1; checks = a.tally.checks + 1 }; mem = pushed a.mem a.tally.count (ordered i j).0 (ordered i j).1 })
      (record { tally = record { count = a.tally.count; checks = a.tally.checks + 1 }; mem = a.mem })).tally.checks ≡ a.tally.checks + 1)
      ((looked_by v xs tops table).near (ordered i j).0 (ordered i j).1 && not ((looked_by v xs tops table).excluded (ordered i j).0 (ordered i j).1))
      (λ _. refl)
      (λ _. refl)

  pub all_checked : (part : List ℕ) (a : Listing) → (list_of (scene_by v xs tops table) a (with_each i part)).tally.checks ≡ a.tally.checks + length part
  unfolding with_each
  all_checked [] a = sym (add-zero a.tally.checks)
  all_checked (j ∷ part) a =
      let e = all_checked part (consider_of (scene_by v xs tops table) a (ordered i j)) in
      omega (arith, e, checks_step j a)

  pub sifted_alike : (part : List ℕ) (a b : Listing) → Alike a b → Alike (list_of (scene_by v xs tops table) a (with_each i part)) (list_of (chosen_by tops table) b (with_each i (keep (near_to v xs i) part)))
  unfolding with_each keep
  sifted_alike [] a b w = w
  sifted_alike (j ∷ part) a b w =
      by_test
      (λ x. near_to v xs i j ≡ x
      → Alike (list_of (scene_by v xs tops table) (consider_of (scene_by v xs tops table) a (ordered i j)) (map (ordered i) part))
      (list_of (chosen_by tops table) b (map (ordered i) (cond x (j ∷ keep (near_to v xs i) part) (keep (near_to v xs i) part)))))
      (near_to v xs i j)
      (λ _ e. sifted_alike part _ _ (near_alike j a b e w))
      (λ _ e. sifted_alike part _ _ (far_alike j a b e w))
      refl

  -- the part listed, from its near ones
  pub few_listed : (part near : List ℕ) (t r : Tally) (old new : List ℕ) → near ≡ keep (near_to v xs i) part
      → record { tally = r; mem = new } ≡ list_of (chosen_by tops table) (record { tally = t; mem = old }) (with_each i near)
      → record { tally = record { count = r.count; checks = t.checks + length part }; mem = new } ≡ list_of (scene_by v xs tops table) (record { tally = t; mem = old }) (with_each i part)
  few_listed part near t r old new e q =
      let s : Listing = record { tally = t; mem = old } in
      let w = sifted_alike part s s (record { count = refl; mem = refl }) in
      let p = rw e at q in
      λ k. record {
        tally =
            record {
              count = (ap (λ (l : Listing). l.tally.count) p ∙ sym w.count) k;
              checks = sym (all_checked part s) k;
            };
        mem = (ap (λ (l : Listing). l.mem) p ∙ sym w.mem) k;
      }

-- ---- a part in pieces
with_append : (i : ℕ) (a b : List ℕ) → with_each i (a ++ b) ≡ with_each i a ++ with_each i b
unfolding with_each
with_append i [] b = refl
with_append i (x ∷ a) b = ap (λ (t : List (ℕ × ℕ)). ordered i x ∷ t) (with_append i a b)

module _ (few later : List ℕ) (i : ℕ) {part : List ℕ} (e : part ≡ few ++ later) where
  with_piece : with_each i part ≡ with_each i few ++ with_each i later
  with_piece = ap (with_each i) e ∙ with_append i few later

  pub run_piece : {g : Scene} {s₀ s : Listing} {all : List (ℕ × ℕ)} (r : Listing) → Run g s₀ s all (with_each i part) → r ≡ list_of g s (with_each i few) → Run g s₀ r all (with_each i later)
  run_piece r u q = run_part (with_each i few) (with_each i later) r (rw with_piece at u) q

  pub ready_piece : {t : Tally} → Ready t (length (with_each i part)) → Ready t (length (with_each i few))
  ready_piece u = ready_first (with_each i few) (with_each i later) (rw with_piece at u)

pub below_first : (few later : List ℕ) {part : List ℕ} (n : ℕ) → part ≡ few ++ later → Below n part → Below n few
below_first few later n e w k l = rw (e, get_or-append few later 0 k l) at (w k (omega (arith, ap length e, length-append few later)))

pub below_later : (few later : List ℕ) {part : List ℕ} (n : ℕ) → part ≡ few ++ later → Below n part → Below n later
below_later few later n e w k l = rw (e, get_or-append-add few later k 0) at (w (length few + k) (omega (arith, ap length e, length-append few later)))

-- ---- the room and its front
module _ (room part : List ℕ) (big : length room ≡ 32) (few : length part ≤ 32) where
  pub room_long : length (take (length part) room) ≡ length part
  room_long = length-take-le (length part) room (omega arith)

  module _ {q : ℕ → Bool} {count : ℕ} {done : List ℕ} (w : Gathered q part count done) (same : length done ≡ length (take (length part) room)) where
    pub room_within : count ≤ length (done ++ drop (length part) room)
    room_within = omega (arith, w.few, room_long, length-append done (drop (length part) room))

    pub room_count : count ≡ length (take count (done ++ drop (length part) room))
    room_count = sym (length-take-le count (done ++ drop (length part) room) room_within)

    pub room_near : take count (done ++ drop (length part) room) ≡ keep q part
    room_near = take-append-le count done (drop (length part) room) (omega (arith, w.few, room_long)) ∙ w.are

pub ready_near : {t : Tally} (i : ℕ) (q : ℕ → Bool) (near part : List ℕ) → near ≡ keep q part → Ready t (length (with_each i part)) → Ready t (length (with_each i near))
ready_near i q near part e h = ready_less (length (with_each i near)) (omega (arith, length_with i near, length_with i part, length_keep q part, ap length e)) h
