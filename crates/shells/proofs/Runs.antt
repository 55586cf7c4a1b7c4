-- What an outcome of `add_shells` counts, and what a run of calls counts. Assumes nothing.
use Rattle.std.specs.Prelude.{Err, Ok, Result}
use Rattle.answer.specs.declared.Refusal.{Refusal}
use Prim.Native.Nat.{ℕ, ◌+◌, ◌/◌, ◌<◌}
use mathlib.Core.Path.{◌≡◌, refl, sym, ap, ◌∙◌}
use mathlib.Core.Bool.{cond, not, ◌||◌}
use mathlib.Core.List.{List, [], ◌∷◌}
use native.Mathlib.Omega.{arith}
use lib.ListN.{length, get_or, replicate, length-replicate}
use lib.Dec.{eqb, ltb}
use borrow.Author.Tests.{eqb-false}
use Rattle.answer.specs.declared.Refusal.TheVariants.{Lengths, TooMany, Range}
use Rattle.answer.specs.Seen.{Seen, answered, refused}
use Rattle.answer.proofs.Passed.{pass}
use Rattle.lists.specs.Exact.{Exactly}
use Rattle.lists.proofs.Cases.{by_test, or_neither, impossible}
use Rattle.frame.specs.declared.Built.{Built}
use Rattle.frame.specs.Build.{Given, lengths_bad, ranges_ok, build_of}
use Rattle.frame.specs.Listed.{Close}
use Rattle.frame.proofs.Outcomes.{build_lists}
use Rattle.shells.specs.declared.CountError.{CountError}
use Rattle.shells.specs.Shells.{Adding, Tallied, adding, seen_counted, shell_of, shell_at, is_past, totals_with, listed_rows, totals_after, shells_asked, after_build, after_tests, add_shells_of, AddShellsSays}
use Rattle.shells.specs.Theorems.{pairs_within, pairs_in_shell, ShellsGrown, AddShellsCounts, Call, Follow, if_answered, sum_over, RunCounts}
use Rattle.shells.proofs.Totals.{grown_long, grown_at}
use Rattle.shells.proofs.Within.{listed_many, listed_in}
use Rattle.shells.proofs.Sums.{sum, sum_zeros, zero_at, sum_grown}

-- an answered build lists exactly the unexcluded pairs within the radius
listed_exactly : (i : Given) (c : Built) → (build_of i).answer ≡ answered c → Exactly (Close i) (listed_rows c (build_of i).pairs)
listed_exactly i c e =
    (build_lists i (Ok c) (build_of i).pairs (build_of i).starts (build_of i).items
    (ap (λ (a : Seen Built). record { answer = a; pairs = (build_of i).pairs; starts = (build_of i).starts; items = (build_of i).items }) (sym e)) c refl
    ).exactly

-- ---- one call
module _ (j : Adding) where
  abbrev i : Given
  i = j.build

  abbrev shells : ℕ
  shells = length j.totals

  abbrev shell : ℕ × ℕ → ℕ
  shell = shell_at i.frame i.coordinates j.width shells

  -- what was counted: a build that was answered, into one shell or more
  record Answers (c : Built) (totals : List ℕ) : Type 0 where
    built : (build_of i).answer ≡ answered c
    are : totals ≡ totals_after j c (build_of i).pairs
    many : 0 < shells

  record Shows (t : Tallied) : Type 0 where
    yes : (c : Built) → t.answer ≡ answered c → Answers c t.totals
    no : (n p : ℕ) → t.answer ≡ refused n p → t.totals ≡ j.totals

  after_shows : 0 < shells → (a : Seen Built) → (build_of i).answer ≡ a → Shows (after_build j (build_of i) a)
  unfolding after_build
  after_shows many (refused n p) e = record { yes = λ c q. impossible (cc); no = λ n p q. refl }
  after_shows many (answered c) e =
      by_test (λ t. Shows (cond t (full c) (fine c))) (is_past (totals_after j c (build_of i).pairs))
      (λ _. record { yes = λ d q. impossible (cc); no = λ n p q. refl })
      (λ _. record { yes = λ d q. let same : c ≡ d = cc in record { built = e ∙ ap answered same; are = rw (← same); many = many }; no = λ n p q. impossible (cc) })
    where
      full : Built → Tallied
      full c = record { answer = refused 13 0; totals = j.totals; pairs = (build_of i).pairs; starts = (build_of i).starts; items = (build_of i).items }

      fine : Built → Tallied
      fine c = record { answer = answered c; totals = totals_after j c (build_of i).pairs; pairs = (build_of i).pairs; starts = (build_of i).starts; items = (build_of i).items }

  -- the tests have passed, so there are shells
  some_shells : shells_asked j ≡ Ok tt → 0 < shells
  unfolding shells_asked
  some_shells h =
      let b =
      (pass (not (ranges_ok i.frame i.coordinates) || (eqb j.width 0 || eqb shells 0)) Range _
      (pass (ltb 16384 (length i.coordinates / 3)) (TooMany (length i.coordinates / 3)) _
      (pass (lengths_bad (length i.coordinates) (length i.exclusions) (length i.items)) Lengths _ h).1).1).0 in
      let w = (or_neither (not (ranges_ok i.frame i.coordinates)) (eqb j.width 0 || eqb shells 0) b).1 in
      let z = eqb-false shells 0 (or_neither (eqb j.width 0) (eqb shells 0) w).1 in
      omega (arith, z)

  tests_show : (d : Result (Unit {0}) Refusal) → shells_asked j ≡ d → Shows (after_tests j d)
  unfolding after_tests
  tests_show (Err r) e = record { yes = λ c q. impossible (cc); no = λ n p q. refl }
  tests_show (Ok tt) e = after_shows (some_shells e) (build_of i).answer refl

  outcome_shows : Shows (add_shells_of j)
  unfolding add_shells_of
  outcome_shows = tests_show (shells_asked j) refl

  -- of the answer and the totals that fit the contract
  module _ (r : Result Built CountError) (totals pairs starts items : List ℕ) (says : AddShellsSays j r totals pairs starts items) where
    answer_is : seen_counted r ≡ (add_shells_of j).answer
    answer_is = ap (λ (t : Tallied). t.answer) says

    totals_are : totals ≡ (add_shells_of j).totals
    totals_are = ap (λ (t : Tallied). t.totals) says

    answers : (c : Built) → seen_counted r ≡ answered c → Answers c totals
    answers c e = rw totals_are (outcome_shows.yes c (sym answer_is ∙ e))

    nothing_added : (n p : ℕ) → seen_counted r ≡ refused n p → totals ≡ j.totals
    nothing_added n p e = totals_are ∙ outcome_shows.no n p (sym answer_is ∙ e)

    module _ (c : Built) (e : seen_counted r ≡ answered c) where
      abbrev listed : List (ℕ × ℕ)
      listed = listed_rows c (build_of i).pairs

      exact : Exactly (Close i) listed
      exact = listed_exactly i c (answers c e).built

      below : (p : ℕ × ℕ) → shell p < shells
      unfolding shell_at shell_of
      below p = omega (arith, (answers c e).many)

      are : totals ≡ totals_with shell listed j.totals
      are = (answers c e).are

      grown_each : ShellsGrown j totals
      grown_each =
          record {
            long = ap length are ∙ grown_long shell listed j.totals;
            each =
                λ k h.
                ap (λ (t : List ℕ). get_or t k 0) are
                ∙ grown_at shell listed j.totals k h
                ∙ ap (λ (n : ℕ). get_or j.totals k 0 + n) (listed_in i listed exact j.width shells k h);
          }

      grown_sum : sum totals ≡ sum j.totals + pairs_within i
      grown_sum =
          ap sum are
          ∙ sum_grown shell listed j.totals below
          ∙ ap (λ (n : ℕ). sum j.totals + n) (listed_many i listed exact)

    -- THEOREM. An answered call adds its frame's pairs, shell by shell; a refused one adds nothing.
    pub add_shells_counts : AddShellsCounts j r totals
    add_shells_counts = record { counts = grown_each; nothing = nothing_added }

    -- whatever the answer
    call_long : (s : Seen Built) → seen_counted r ≡ s → length totals ≡ shells
    call_long (answered c) e = (grown_each c e).long
    call_long (refused n p) e = ap length (nothing_added n p e)

    call_sum : (s : Seen Built) → seen_counted r ≡ s → sum totals ≡ sum j.totals + if_answered s (pairs_within i)
    unfolding if_answered
    call_sum (answered c) e = grown_sum c e
    call_sum (refused n p) e = ap sum (nothing_added n p e) ∙ omega arith

    call_each : (s : Seen Built) → seen_counted r ≡ s → (k : ℕ) → k < shells → get_or totals k 0 ≡ get_or j.totals k 0 + if_answered s (pairs_in_shell i j.width shells k)
    unfolding if_answered
    call_each (answered c) e k h = (grown_each c e).each k h
    call_each (refused n p) e k h = ap (λ (t : List ℕ). get_or t k 0) (nothing_added n p e) ∙ omega arith

-- ---- a run
abbrev within : Call → ℕ
within c = if_answered (seen_counted c.answer) (pairs_within c.build)

abbrev in_one : ℕ → ℕ → Call → ℕ
in_one shells k c = if_answered (seen_counted c.answer) (pairs_in_shell c.build c.width shells k)

run_long : (before : List ℕ) (cs : List Call) (after : List ℕ) → Follow before cs after → length after ≡ length before
run_long before [] after e = ap length e
run_long before (c ∷ cs) after (between, says, rest) =
    run_long between cs after rest
    ∙ call_long (adding c.build c.width before) c.answer between c.pairs c.starts c.items says (seen_counted c.answer) refl

run_sum : (before : List ℕ) (cs : List Call) (after : List ℕ) → Follow before cs after → sum after ≡ sum before + sum_over within cs
unfolding sum_over
run_sum before [] after e = ap sum e ∙ omega arith
run_sum before (c ∷ cs) after (between, says, rest) =
    omega (
      arith,
      run_sum between cs after rest,
      call_sum (adding c.build c.width before) c.answer between c.pairs c.starts c.items says (seen_counted c.answer) refl,
    )

run_each : (shells k : ℕ) → k < shells → (before : List ℕ) (cs : List Call) (after : List ℕ) → length before ≡ shells → Follow before cs after
    → get_or after k 0 ≡ get_or before k 0 + sum_over (in_one shells k) cs
unfolding sum_over
run_each shells k h before [] after l e = ap (λ (t : List ℕ). get_or t k 0) e ∙ omega arith
run_each shells k h before (c ∷ cs) after l (between, says, rest) =
    let j = adding c.build c.width before in
    let long = call_long j c.answer between c.pairs c.starts c.items says (seen_counted c.answer) refl in
    let one = rw l at (call_each j c.answer between c.pairs c.starts c.items says (seen_counted c.answer) refl k (rw l h)) in
    omega (arith, run_each shells k h between cs after (long ∙ l) rest, one)

-- THEOREM. Of a run from zeros the totals' sum is the number of unexcluded pairs within the radius of the answered frames; and so shell by shell.
pub run_counts : (shells : ℕ) (cs : List Call) (after : List ℕ) → Follow (replicate shells 0) cs after → RunCounts shells cs after
run_counts shells cs after h =
    let long : length (replicate {A = ℕ} shells 0) ≡ shells = length-replicate shells 0 in
    record {
      long = run_long (replicate shells 0) cs after h ∙ long;
      sum = omega (arith, run_sum (replicate shells 0) cs after h, sum_zeros shells);
      each = λ k l. omega (arith, run_each shells k l (replicate shells 0) cs after long h, zero_at shells k);
    }
