-- The tests of `add_shells` beside those of a build, and the outcome after each. Assumes nothing.
use Rattle.std.specs.Prelude.{Err, Ok, Result}
use Rattle.frame.specs.declared.Built.{Built}
use Prim.Native.Nat.{ℕ, ◌*◌, ◌/◌, ◌≤◌, ◌<◌}
use mathlib.Core.Path.{◌≡◌, refl, sym, ap, ◌∙◌}
use mathlib.Core.Bool.{Bool, true, false, cond, not, ◌||◌}
use mathlib.Core.Logic.{⊎_elim}
use mathlib.Core.List.{List}
use native.Mathlib.Omega.{arith}
use lib.ListN.{length, get_or, take}
use lib.Dec.{eqb, ltb, leb}
use borrow.Author.Tests.{eqb-false, leb-true, not-true, not-false}
use Rattle.answer.specs.declared.Refusal.{Refusal}
use Rattle.answer.specs.declared.Refusal.TheVariants.{Lengths, TooMany, Range, Order, Room}
use Rattle.answer.specs.Seen.{answered, refused, refused_by, seen}
use Rattle.answer.proofs.Passed.{pass}
use Rattle.exclusions.specs.Table.{is_table}
use Rattle.lists.specs.Lists.{rows}
use Rattle.lists.proofs.Cases.{true_or_false, or_neither, impossible}
use Rattle.lists.proofs.Exactness.{get_d_mem}
use Rattle.lists.proofs.Rows.{rows_at, length_rows}
use Rattle.frame.specs.Laying.{plain_of, crowded}
use Rattle.frame.specs.Build.{Given, Outcome, lengths_bad, ranges_ok, frame_asked, near_pairs, checks_of, shown_of, run_of, after_of, build_of, BuildSays}
use Rattle.frame.specs.Listed.{BuildLists}
use Rattle.frame.proofs.Outcomes.{pairs_kept}
use Rattle.shells.specs.Shells.{Adding, is_past, totals_after, shells_asked, built_with, after_build, after_tests, add_shells_of}
use Rattle.shells.specs.Steps.{before_order, refusal_of, Countable}

-- ---- the refusal where the width or the totals are out of range
pub refusal_fine : {a : Result (Unit {0}) Refusal} → a ≡ Ok tt → Range ≡ refusal_of a
unfolding refusal_of
refusal_fine e = rw e

pub refusal_first : {a : Result (Unit {0}) Refusal} {r why : Refusal} → a ≡ Err why → r ≡ before_order why → r ≡ refusal_of a
unfolding refusal_of
refusal_first e h = rw e h

-- by the four tests
with_bad : (lengths many range order : Bool) (n : ℕ)
    → ◌≡◌ {A = Result (Unit {0}) Refusal}
    (cond lengths (Err Lengths) (cond many (Err (TooMany n)) (cond (range || true) (Err Range) (cond order (Err Order) (Ok tt)))))
    (Err (refusal_of (cond lengths (Err Lengths) (cond many (Err (TooMany n)) (cond range (Err Range) (cond order (Err Order) (Ok tt)))))))
unfolding refusal_of before_order
with_bad true many range order n = refl
with_bad false true range order n = refl
with_bad false false true order n = refl
with_bad false false false true n = refl
with_bad false false false false n = refl

or_false : (b : Bool) → (b || false) ≡ b
or_false true = refl
or_false false = refl

module _ (j : Adding) where
  abbrev tests : Result (Unit {0}) Refusal
  tests = frame_asked j.build.frame j.build.coordinates j.build.exclusions (length j.build.items)

  abbrev bad : Bool
  bad = eqb j.width 0 || eqb (length j.totals) 0

  asked_is : bad ≡ true → shells_asked j ≡ Err (refusal_of tests)
  unfolding shells_asked frame_asked
  asked_is b =
      rw b
      (with_bad (lengths_bad (length j.build.coordinates) (length j.build.exclusions) (length j.build.items))
      (ltb 16384 (length j.build.coordinates / 3)) (not (ranges_ok j.build.frame j.build.coordinates))
      (not (is_table (rows j.build.exclusions))) (length j.build.coordinates / 3))

  pub asked_bad : bad ≡ true → {r : Refusal} → r ≡ refusal_of tests
      → record { answer = refused_by r; totals = j.totals; pairs = j.build.pairs; starts = j.build.starts; items = j.build.items } ≡ add_shells_of j
  unfolding add_shells_of after_tests
  asked_bad b e = rw (e, asked_is b)

  module _ (fine : bad ≡ false) where
    asked_same : shells_asked j ≡ tests
    unfolding shells_asked frame_asked
    asked_same = rw (fine, or_false (not (ranges_ok j.build.frame j.build.coordinates)))

    -- the outcome is the build's, whatever the tests say
    any_tests : (a : Result (Unit {0}) Refusal) → tests ≡ a → after_tests j a ≡ after_build j (build_of j.build) (build_of j.build).answer
    unfolding after_tests after_build build_of after_of
    any_tests (Ok tt) e = refl
    any_tests (Err r) e = rw e

    asked_fine : after_build j (build_of j.build) (build_of j.build).answer ≡ add_shells_of j
    unfolding add_shells_of
    asked_fine = sym (ap (after_tests j) asked_same ∙ any_tests tests refl)

    module _ (b : Result Built Refusal) (pairs starts items : List ℕ) (says : BuildSays j.build b pairs starts items) where
      abbrev o : Outcome
      o = record { answer = seen b; pairs = pairs; starts = starts; items = items }

      after_build_lem : after_build j o (seen b) ≡ add_shells_of j
      after_build_lem = ap (λ (t : Outcome). after_build j t t.answer) says ∙ asked_fine

      pub built_refused : {r : Refusal} → b ≡ Err r → built_with o (refused_by r) j.totals ≡ add_shells_of j
      unfolding after_build
      built_refused e = ap (λ (t : Result Built Refusal). after_build j o (seen t)) (sym e) ∙ after_build_lem

      module _ {counts : Built} (e : b ≡ Ok counts) where
        abbrev after : List ℕ
        after = totals_after j counts pairs

        answered_after : after_build j o (answered counts) ≡ add_shells_of j
        answered_after = ap (λ (t : Result Built Refusal). after_build j o (seen t)) (sym e) ∙ after_build_lem

        module _ {all : Bool} (is : all ≡ not (is_past after)) {totals : List ℕ} (left : totals ≡ cond all after j.totals) where
          pub built_added : all ≡ true → built_with o (answered counts) totals ≡ add_shells_of j
          unfolding after_build
          built_added t =
              let room : is_past after ≡ false = not-true (is_past after) (sym is ∙ t) in
              let now : totals ≡ after = rw t at left in rw (← answered_after, room, now)

          pub built_full : all ≡ false → built_with o (refused 13 0) totals ≡ add_shells_of j
          unfolding after_build
          built_full t =
              let room : is_past after ≡ true = not-false (is_past after) (sym is ∙ t) in
              let now : totals ≡ j.totals = rw t at left in rw (← answered_after, room, now)

-- ---- what an answered build shows: the frame is in range, and the listed pairs fit and are of its atoms
module _ (i : Given) (c : Built) where
  abbrev found : List (ℕ × ℕ)
  found = near_pairs i.frame i.coordinates i.exclusions

  abbrev tested : ℕ
  tested = checks_of i.frame i.coordinates i.exclusions

  fitting : (t : Bool) (fallback : Bool) → leb (length found) (length i.pairs / 2) ≡ t
      → cond t (answered (record { pairs = length found; checks = tested; fallback = fallback })) (refused_by (Room (length found))) ≡ answered c
      → 2 * c.pairs ≤ length i.pairs
  fitting true fallback e q =
      let same : c.pairs ≡ length found = cc in omega (arith, leb-true (length found) (length i.pairs / 2) e)
  fitting false fallback e q = impossible (cc)

  run_fits : (starts items : List ℕ) (fallback : Bool) → (run_of i starts items fallback).answer ≡ answered c → 2 * c.pairs ≤ length i.pairs
  unfolding run_of shown_of
  run_fits starts items fallback q = fitting (leb (length found) (length i.pairs / 2)) fallback refl q

  abbrev below : Bool
  below = ltb (length i.coordinates / 3) 2

  abbrev full : Bool
  full = crowded i.frame (length i.starts)

  after_fits : (after_of i (Ok tt)).answer ≡ answered c → 2 * c.pairs ≤ length i.pairs
  unfolding after_of
  after_fits h =
      ⊎_elim (λ (few : below ≡ true). let q = rw few at h in let none : c.pairs ≡ 0 = cc in omega arith)
      (λ (many : below ≡ false).
      ⊎_elim (λ (plain : plain_of i.frame ≡ true). run_fits i.starts i.items true (rw (many, plain) at h))
      (λ (grid : plain_of i.frame ≡ false).
      ⊎_elim (λ (crowd : full ≡ true). let q = rw (many, grid, crowd) at h in impossible (cc))
      (λ (room : full ≡ false). run_fits _ _ false (rw (many, grid, room) at h)) (true_or_false full))
      (true_or_false (plain_of i.frame)))
      (true_or_false below)

  tests_passed : (a : Result (Unit {0}) Refusal) → (after_of i a).answer ≡ answered c → a ≡ Ok tt
  unfolding after_of
  tests_passed (Ok tt) q = refl
  tests_passed (Err r) q = impossible (cc)

  asked_ranged : frame_asked i.frame i.coordinates i.exclusions (length i.items) ≡ Ok tt → ranges_ok i.frame i.coordinates ≡ true
  unfolding frame_asked
  asked_ranged h =
      not-false (ranges_ok i.frame i.coordinates)
      (pass (not (ranges_ok i.frame i.coordinates)) Range _
      (pass (ltb 16384 (length i.coordinates / 3)) (TooMany (length i.coordinates / 3)) _
      (pass (lengths_bad (length i.coordinates) (length i.exclusions) (length i.items)) Lengths _ h).1).1).0

  module _ (h : (build_of i).answer ≡ answered c) where
    passed : frame_asked i.frame i.coordinates i.exclusions (length i.items) ≡ Ok tt
    unfolding build_of
    passed = tests_passed (frame_asked i.frame i.coordinates i.exclusions (length i.items)) h

    pub answered_ranged : ranges_ok i.frame i.coordinates ≡ true
    answered_ranged = asked_ranged passed

    pub answered_fits : 2 * c.pairs ≤ length i.pairs
    unfolding build_of
    answered_fits = after_fits (rw passed at h)

module _ (i : Given) (b : Result Built Refusal) (pairs starts items : List ℕ) (says : BuildSays i b pairs starts items) {counted : Built} (e : b ≡ Ok counted) where
  seen_is : seen b ≡ answered counted
  seen_is = ap seen e

  answer_is : (build_of i).answer ≡ answered counted
  answer_is = sym (ap (λ (o : Outcome). o.answer) says) ∙ seen_is

  pub listed_fit : 2 * counted.pairs ≤ length pairs
  listed_fit =
      rw (ap (λ (o : Outcome). o.pairs) says, pairs_kept i) (answered_fits i counted answer_is)

  pub listed_countable : BuildLists i b pairs → (width shells : ℕ) → (eqb width 0 || eqb shells 0) ≡ false → Countable i.frame i.coordinates width shells (take (2 * counted.pairs) pairs)
  listed_countable lists width shells fine =
      record {
        ranged = answered_ranged i counted answer_is;
        there =
            λ k h.
            let l = take (2 * counted.pairs) pairs in
            let two =
            rw (rows_at l k h) at
            ((lists counted seen_is).exactly.sound (get_or (rows l) k (0, 0)) (get_d_mem (0, 0) (rows l) k (rw (length_rows l) h))).0 in
            (omega (arith, two.0, two.1), two.1);
        wide = positive (or_neither (eqb width 0) (eqb shells 0) fine).0;
        many = positive (or_neither (eqb width 0) (eqb shells 0) fine).1;
      }
    where
      positive : {n : ℕ} → eqb n 0 ≡ false → 0 < n
      positive {n} q = omega (arith, eqb-false n 0 q)
