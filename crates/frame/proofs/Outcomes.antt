-- The outcome of a build by its cases, what an answered one lists, and that the lent pairs stay as long as they were. Assumes nothing.
use Rattle.std.specs.Prelude.{Err, Ok, Result}
use Rattle.frame.specs.declared.Built.{Built}
use Prim.Native.Nat.{ℕ, ◌/◌, ◌%◌, ◌≤◌, ◌<◌}
use mathlib.Core.Path.{◌≡◌, refl, sym, ap, ◌∙◌}
use mathlib.Core.Bool.{Bool, true, false, cond, not, ◌||◌}
use mathlib.Core.List.Memᴰ
use mathlib.Core.List.{List}
use native.Mathlib.Omega.{arith}
use lib.ListN.{length}
use lib.Dec.{eqb, ltb, leb}
use borrow.Author.Tests.{ltb-true, ltb-false, lt-ltb, leb-true, not-false}
use Rattle.lists.proofs.Exactness.{no_pairs}
use Rattle.answer.proofs.Passed.{pass}
use Rattle.answer.specs.declared.Refusal.{Refusal}
use Rattle.answer.specs.declared.Refusal.TheVariants.{Lengths, TooMany, Range, Order, Cells, Room}
use Rattle.answer.specs.Seen.{answered, refused_by}
use Rattle.lists.specs.Lists.{how_many, rows}
use Rattle.lists.proofs.Cases.{by_test, or_neither, impossible}
use Rattle.bins.specs.Listing.{laid_of}
use Rattle.bins.proofs.Laid.{laid_rows, laid_length}
use Rattle.exclusions.specs.Table.{is_table}
use Rattle.frame.specs.declared.Frame.{Frame}
use Rattle.frame.specs.Distance.{frame_ok}
use Rattle.frame.specs.Laying.{plain_of, crowded}
use Rattle.frame.specs.Build.{Given, Outcome, stays, scene_of, near_pairs, checks_of, lengths_bad, ranges_ok, shown_of, run_of, starts_laid, items_laid, after_of, build_of, BuildSays, frame_asked}
use Rattle.frame.specs.Listed.{Listed, BuildLists}
use Rattle.frame.specs.Steps.{Framed}
use Rattle.frame.proofs.Ranges.{ranges_accepted, ranges_framed}
use Rattle.frame.proofs.Nearby.{near_exactly}

-- ---- what it shows that a build's tests have passed
pub record Fine (f : Frame) (xs table : List ℕ) (items : ℕ) : Type 0 where
  pub framed : Framed f xs
  pub ascending : is_table (rows table) ≡ true
  pub few : length xs / 3 ≤ 16384
  pub room : length xs / 3 ≤ items

module _ (f : Frame) (xs table : List ℕ) (items : ℕ) (h : frame_asked f xs table items ≡ Ok tt) where
  abbrev last : Result (Unit {0}) Refusal
  last = cond (not (is_table (rows table))) (Err Order) (Ok tt)

  abbrev third : Result (Unit {0}) Refusal
  third = cond (not (ranges_ok f xs)) (Err Range) last

  abbrev second : Result (Unit {0}) Refusal
  second = cond (ltb 16384 (length xs / 3)) (Err (TooMany (length xs / 3))) third

  one : (lengths_bad (length xs) (length table) items ≡ false) × (second ≡ Ok tt)
  unfolding frame_asked
  one = pass (lengths_bad (length xs) (length table) items) Lengths second h

  two : (ltb 16384 (length xs / 3) ≡ false) × (third ≡ Ok tt)
  two = pass (ltb 16384 (length xs / 3)) (TooMany (length xs / 3)) third one.1

  three : (not (ranges_ok f xs) ≡ false) × (last ≡ Ok tt)
  three = pass (not (ranges_ok f xs)) Range last two.1

  short : ltb items (length xs / 3) ≡ false
  unfolding lengths_bad
  short = (or_neither (not (eqb (length xs % 3) 0) || not (eqb (length table % 2) 0)) (ltb items (length xs / 3)) one.0).1

  pub asked_accepted : frame_ok f ≡ true
  asked_accepted = ranges_accepted f xs (not-false (ranges_ok f xs) three.0)

  pub asked_passed : Fine f xs table items
  asked_passed =
      record {
        framed = ranges_framed f xs (not-false (ranges_ok f xs) three.0);
        ascending = not-false (is_table (rows table)) (pass (not (is_table (rows table))) Order (Ok tt) three.1).0;
        few = ltb-false 16384 (length xs / 3) two.0;
        room = ltb-false items (length xs / 3) short;
      }

-- ---- the build by its cases, for the code
module _ (i : Given) {a : Result (Unit {0}) Refusal} (is : a ≡ frame_asked i.frame i.coordinates i.exclusions (length i.items)) where
  pub build_refused : {r : Refusal} → a ≡ Err r → stays i (refused_by r) ≡ build_of i
  unfolding build_of after_of
  build_refused e = rw (← is, e)

  module _ (e : a ≡ Ok tt) where
    pub build_fine : Fine i.frame i.coordinates i.exclusions (length i.items)
    build_fine = asked_passed i.frame i.coordinates i.exclusions (length i.items) (sym is ∙ e)

    pub build_few : length i.coordinates / 3 < 2 → stays i (answered (record { pairs = 0; checks = 0; fallback = false })) ≡ build_of i
    unfolding build_of after_of
    build_few h = rw (← is, e, lt-ltb (length i.coordinates / 3) 2 h)

    pub build_run : {o : Outcome} → o ≡ after_of i (Ok tt) → o ≡ build_of i
    unfolding build_of
    build_run q = rw (← is, e) q

-- ---- an answered run
module _ (i : Given) (framed : Framed i.frame i.coordinates) (c : Built) where
  abbrev found : List (ℕ × ℕ)
  found = near_pairs i.frame i.coordinates i.exclusions

  abbrev tested : ℕ
  tested = checks_of i.frame i.coordinates i.exclusions

  -- the pairs fit, and the numbers are those of the lists
  fitting : (t : Bool) → (fallback : Bool) → leb (length found) (length i.pairs / 2) ≡ t
      → cond t (answered (record { pairs = length found; checks = tested; fallback = fallback })) (refused_by (Room (length found))) ≡ answered c
      → (length found ≤ length i.pairs / 2) × (c ≡ record { pairs = length found; checks = tested; fallback = fallback })
  fitting true fallback e q = (leb-true (length found) (length i.pairs / 2) e, cc)
  fitting false fallback e q = impossible (cc)

  lists_are : (fallback : Bool) → length found ≤ length i.pairs / 2 → c ≡ record { pairs = length found; checks = tested; fallback = fallback } → Listed i c (laid_of i.pairs found)
  lists_are fallback h e =
      rw e
      (record {
        exactly = rw (laid_rows i.pairs found h) (near_exactly i framed);
        checks = unfold checks_of scene_of in refl;
      })

  run_lists : (fallback : Bool) (starts items : List ℕ) → (run_of i starts items fallback).answer ≡ answered c → Listed i c (run_of i starts items fallback).pairs
  unfolding run_of shown_of
  run_lists fallback starts items q =
      let z = fitting (leb (length found) (length i.pairs / 2)) fallback refl q in lists_are fallback z.0 z.1

few_lists : (i : Given) (c : Built) → length i.coordinates / 3 < 2 → c ≡ record { pairs = 0; checks = 0; fallback = false } → Listed i c i.pairs
unfolding rows how_many
few_lists i c h e =
    rw e
    (record {
      exactly =
          record { sound = λ p m. absurd (Memᴰ.not-nil m); complete = λ p u. let l = u.0.0 in let m = u.0.1 in absurd (omega arith); once = tt };
      checks = rw (no_pairs (length i.coordinates / 3) h);
    })

-- what holds of each outcome of a build whose tests have passed holds of the one that it has
after_cases : (i : Given) (P : Outcome → Type 0)
    → (ltb (length i.coordinates / 3) 2 ≡ true → P (stays i (answered (record { pairs = 0; checks = 0; fallback = false }))))
    → P (run_of i i.starts i.items true)
    → P (stays i (refused_by Cells))
    → P (run_of i (starts_laid i.frame i.coordinates i.starts) (items_laid i.frame i.coordinates i.items) false)
    → P (after_of i (Ok tt))
unfolding after_of
after_cases i P few plain crowd grid =
    by_test (λ t. P (below t)) (ltb (length i.coordinates / 3) 2) few
    (λ _.
    by_test (λ t. P (flat t)) (plain_of i.frame) (λ _. plain)
    (λ _. by_test (λ t. P (full t)) (crowded i.frame (length i.starts)) (λ _. crowd) (λ _. grid)))
  where
    full : Bool → Outcome
    full t = cond t (stays i (refused_by Cells)) (run_of i (starts_laid i.frame i.coordinates i.starts) (items_laid i.frame i.coordinates i.items) false)

    flat : Bool → Outcome
    flat t = cond t (run_of i i.starts i.items true) (full (crowded i.frame (length i.starts)))

    below : Bool → Outcome
    below t = cond t (stays i (answered (record { pairs = 0; checks = 0; fallback = false }))) (flat (plain_of i.frame))

after_lists : (i : Given) → Framed i.frame i.coordinates → (c : Built) → (after_of i (Ok tt)).answer ≡ answered c → Listed i c (after_of i (Ok tt)).pairs
after_lists i framed c =
    after_cases i (λ o. o.answer ≡ answered c → Listed i c o.pairs)
    (λ e q. few_lists i c (ltb-true (length i.coordinates / 3) 2 e) (cc))
    (run_lists i framed c true i.starts i.items)
    (λ q. impossible (cc))
    (run_lists i framed c false _ _)

-- whatever the tests say
asked_lists : (i : Given) (a : Result (Unit {0}) Refusal) → frame_asked i.frame i.coordinates i.exclusions (length i.items) ≡ a → (c : Built) → (after_of i a).answer ≡ answered c → Listed i c (after_of i a).pairs
unfolding after_of
asked_lists i (Err r) e c q = impossible (cc)
asked_lists i (Ok tt) e c q = after_lists i (asked_passed i.frame i.coordinates i.exclusions (length i.items) e).framed c q

-- DEMAND 3. What the outcome's equation says of an answered build.
pub build_lists : (i : Given) (r : Result Built Refusal) (pairs starts items : List ℕ) → BuildSays i r pairs starts items → BuildLists i r pairs
unfolding build_of
build_lists i r pairs starts items h c q =
    let a = frame_asked i.frame i.coordinates i.exclusions (length i.items) in
    let answer : (after_of i a).answer ≡ answered c = sym (ap (λ (o : Outcome). o.answer) h) ∙ q in
    rw (ap (λ (o : Outcome). o.pairs) h) (asked_lists i a refl c answer)

-- ---- the lent pairs stay as long as they were
run_kept : (i : Given) (starts items : List ℕ) (fallback : Bool) → length (run_of i starts items fallback).pairs ≡ length i.pairs
unfolding run_of
run_kept i starts items fallback = laid_length i.pairs (near_pairs i.frame i.coordinates i.exclusions)

after_kept : (i : Given) (a : Result (Unit {0}) Refusal) → length (after_of i a).pairs ≡ length i.pairs
unfolding after_of
after_kept i (Err r) = refl
after_kept i (Ok tt) =
    after_cases i (λ o. length o.pairs ≡ length i.pairs) (λ _. refl) (run_kept i i.starts i.items true) refl (run_kept i _ _ false)

pub pairs_kept : (i : Given) → length (build_of i).pairs ≡ length i.pairs
unfolding build_of
pairs_kept i = after_kept i (frame_asked i.frame i.coordinates i.exclusions (length i.items))
