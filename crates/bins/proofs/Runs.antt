-- Laws of the listing: one step by its cases, and the run over candidates as loops make it. Assumes nothing.
use Prim.Native.Nat.{ℕ, ◌+◌, ◌-◌, ◌≤◌, ◌<◌}
use native.Mathlib.Omega.{arith}
use native.Mathlib.Nat.{sub-zero}
use native.Mathlib.Numerals.{add-one}
use mathlib.Core.Path.{◌≡◌, refl}
use mathlib.Core.Bool.{Bool, true, false, cond}
use mathlib.Core.List.{List, [], ◌∷◌, ◌++◌}
use lib.ListN.{length, get_or, take, drop, length-append, length-drop}
use lib.Seq.{get_or-drop}
use Rattle.lists.specs.Lists.{numbers, up_to, each, ordered, with_each, inside, across, all_pairs}
use Rattle.lists.proofs.Exactness.{ordered_rising, ordered_falling}
use Rattle.lists.proofs.Walks.{rest_of, each_next, each_end, with_next, with_end, across_next, across_end, inside_next, inside_end, later_next, later_end, pairs_next, pairs_end}
use Rattle.bins.specs.declared.Tally.{Tally}
use Rattle.bins.specs.Listing.{Scene, Listing, pushed, consider_of, list_of, Ready, Below}

-- ---- one step, for the code
module _ (e : Scene) (s r : Listing) (i j : ℕ) where
  pub step_rising : i ≤ j → r ≡ consider_of e s (i, j) → r ≡ consider_of e s (ordered i j)
  step_rising h q = rw (ordered_rising i j h) q

  pub step_falling : j ≤ i → r ≡ consider_of e s (j, i) → r ≡ consider_of e s (ordered i j)
  step_falling h q = rw (ordered_falling i j h) q

-- what a step leaves of the counters' room
room : (s : Listing) (x y : Bool) (m : List ℕ) → s.tally.count ≤ s.tally.checks
    → let r : Listing =
    cond x s
    (cond y (record { tally = record { count = s.tally.count + 1; checks = s.tally.checks + 1 }; mem = m })
    (record { tally = record { count = s.tally.count; checks = s.tally.checks + 1 }; mem = s.mem })) in
    (r.tally.count ≤ r.tally.checks) × (r.tally.checks ≤ s.tally.checks + 1)
room s true y m h = (h, omega arith)
room s false true m h = (omega arith, omega arith)
room s false false m h = (omega arith, omega arith)

pub step_ready : (e : Scene) (s r : Listing) (p : ℕ × ℕ) (more : ℕ) → Ready s.tally (more + 1) → r ≡ consider_of e s p → Ready r.tally more
unfolding consider_of
step_ready e s r p more h q =
    let k = room s (e.excluded p.0 p.1) (e.near p.0 p.1) (pushed s.mem s.tally.count p.0 p.1) h.count in
    rw q (record { count = k.0; checks = omega (arith, k.1, h.checks) })

-- ---- a run under way: what is left to do from here gives what all of it gave from the start, and the counters have room for what is left
pub record Run (e : Scene) (s₀ s : Listing) (all rest : List (ℕ × ℕ)) : Type 0 where
  pub same : list_of e s rest ≡ list_of e s₀ all
  pub ready : Ready s.tally (length rest)

pub run_begin : {e : Scene} {s : Listing} (all : List (ℕ × ℕ)) → Ready s.tally (length all) → Run e s s all all
run_begin all h = record { same = refl; ready = h }

pub run_step : {e : Scene} {s₀ s : Listing} {all rest : List (ℕ × ℕ)} {p : ℕ × ℕ} (r : Listing) → Run e s₀ s all (p ∷ rest) → r ≡ consider_of e s p → Run e s₀ r all rest
run_step {e} {s₀} {s} {all} {rest} {p} r h q =
    record {
      same = rw q h.same;
      ready = step_ready e s r p (length rest) (rw add-one h.ready) q;
    }

run_all : {e : Scene} {s₀ s : Listing} {all : List (ℕ × ℕ)} (ps rest : List (ℕ × ℕ)) → Run e s₀ s all (ps ++ rest) → Run e s₀ (list_of e s ps) all rest
run_all [] rest h = h
run_all {e = e} {s₀ = s₀} {s = s} {all = all} (p ∷ ps) rest h = run_all {s = consider_of e s p} ps rest (run_step _ h refl)

pub run_part : {e : Scene} {s₀ s : Listing} {all : List (ℕ × ℕ)} (ps rest : List (ℕ × ℕ)) (r : Listing) → Run e s₀ s all (ps ++ rest) → r ≡ list_of e s ps → Run e s₀ r all rest
run_part ps rest r h q = rw q (run_all ps rest h)

pub run_end : {e : Scene} {s₀ s : Listing} {all : List (ℕ × ℕ)} → Run e s₀ s all [] → s ≡ list_of e s₀ all
run_end h = h.same

-- room for a whole run is room for its first step, or its first part
pub ready_less : {t : Tally} {more : ℕ} (less : ℕ) → less ≤ more → Ready t more → Ready t less
ready_less less le h = record { count = h.count; checks = omega (arith, h.checks) }

pub ready_first : {t : Tally} (ps rest : List (ℕ × ℕ)) → Ready t (length (ps ++ rest)) → Ready t (length ps)
ready_first ps rest h = ready_less (length ps) (omega (arith, length-append ps rest)) h

-- after a whole run the counters have not come round
pub ready_end : (e : Scene) (s : Listing) (all : List (ℕ × ℕ)) → Ready s.tally (length all) → Ready (list_of e s all).tally 0
ready_end e s [] h = h
ready_end e s (p ∷ ps) h = ready_end e (consider_of e s p) ps (step_ready e s (consider_of e s p) p (length ps) (rw add-one h) refl)

-- ---- parts of a bin
pub below_rest : (n : ℕ) (home : List ℕ) (k : ℕ) → Below n home → Below n (take (length home - k) (drop k home))
below_rest n home k h = rw rest_of (λ i l. rw get_or-drop (h (k + i) (omega (arith, l, length-drop k home))))

-- ---- the loops: an atom with each of a part; each of a bin with a part, with the later ones of its own; each later number; all numbers
module _ {e : Scene} {s₀ s : Listing} {all : List (ℕ × ℕ)} (i : ℕ) (part : List ℕ) (k : ℕ) where
  pub run_with : k < length part → (r : Listing) → Run e s₀ s all (with_each i (drop k part)) → r ≡ consider_of e s (ordered i (get_or part k 0)) → Run e s₀ r all (with_each i (drop (k + 1) part))
  run_with h r u q = run_step r (rw (with_next part k i h) at u) q

  pub run_with_end : length part ≤ k → Run e s₀ s all (with_each i (drop k part)) → s ≡ list_of e s₀ all
  run_with_end h u = run_end (rw (with_end part k i h) at u)

  pub ready_with : k < length part → Run e s₀ s all (with_each i (drop k part)) → Ready s.tally 1
  ready_with h u = ready_less 1 (omega arith) (rw (with_next part k i h) at u.ready)

module _ {t : Tally} (home other : List ℕ) (k : ℕ) (h : k < length home) where
  pub ready_across : Ready t (length (across (drop k home) other)) → Ready t (length (with_each (get_or home k 0) other))
  ready_across r = ready_first (with_each (get_or home k 0) other) (across (drop (k + 1) home) other) (rw (across_next home k other h) at r)

  pub ready_inside : Ready t (length (inside (drop k home))) → Ready t (length (with_each (get_or home k 0) (take (length home - (k + 1)) (drop (k + 1) home))))
  ready_inside r = rw rest_of (ready_first (with_each (get_or home k 0) (drop (k + 1) home)) (inside (drop (k + 1) home)) (rw (inside_next home k h) at r))

module _ {e : Scene} {s₀ s : Listing} {all : List (ℕ × ℕ)} (home other : List ℕ) (k : ℕ) where
  module _ (h : k < length home) (r : Listing) where
    pub run_across : Run e s₀ s all (across (drop k home) other) → r ≡ list_of e s (with_each (get_or home k 0) other) → Run e s₀ r all (across (drop (k + 1) home) other)
    run_across u q = run_part (with_each (get_or home k 0) other) (across (drop (k + 1) home) other) r (rw (across_next home k other h) at u) q

    pub run_inside : Run e s₀ s all (inside (drop k home)) → r ≡ list_of e s (with_each (get_or home k 0) (take (length home - (k + 1)) (drop (k + 1) home))) → Run e s₀ r all (inside (drop (k + 1) home))
    run_inside u q = run_part (with_each (get_or home k 0) (drop (k + 1) home)) (inside (drop (k + 1) home)) r (rw (inside_next home k h) at u) (rw rest_of at q)

  module _ (h : length home ≤ k) where
    pub run_across_end : Run e s₀ s all (across (drop k home) other) → s ≡ list_of e s₀ all
    run_across_end u = run_end (rw (across_end home k other h) at u)

    pub run_inside_end : Run e s₀ s all (inside (drop k home)) → s ≡ list_of e s₀ all
    run_inside_end u = run_end (rw (inside_end home k h) at u)

-- numbers in place of a bin: the fallback
module _ {e : Scene} {s₀ s : Listing} {all : List (ℕ × ℕ)} (n k : ℕ) where
  pub run_above : (i : ℕ) → k < n → (r : Listing) → Run e s₀ s all (with_each i (numbers k (n - k))) → r ≡ consider_of e s (ordered i k) → Run e s₀ r all (with_each i (numbers (k + 1) (n - (k + 1))))
  run_above i h r u q = run_step r (rw (later_next i n k h) at u) q

  pub ready_above : (i : ℕ) → k < n → Run e s₀ s all (with_each i (numbers k (n - k))) → Ready s.tally 1
  ready_above i h u = ready_less 1 (omega arith) (rw (later_next i n k h) at u.ready)

  pub run_above_end : (i : ℕ) → n ≤ k → Run e s₀ s all (with_each i (numbers k (n - k))) → s ≡ list_of e s₀ all
  run_above_end i h u = run_end (rw (later_end i n k h) at u)

  pub run_numbers : k < n → (r : Listing) → Run e s₀ s all (inside (numbers k (n - k))) → r ≡ list_of e s (with_each k (numbers (k + 1) (n - (k + 1)))) → Run e s₀ r all (inside (numbers (k + 1) (n - (k + 1))))
  run_numbers h r u q = run_part (with_each k (numbers (k + 1) (n - (k + 1)))) (inside (numbers (k + 1) (n - (k + 1)))) r (rw (pairs_next n k h) at u) q

  pub ready_numbers : k < n → Run e s₀ s all (inside (numbers k (n - k))) → Ready s.tally (length (with_each k (numbers (k + 1) (n - (k + 1)))))
  ready_numbers h u = ready_first (with_each k (numbers (k + 1) (n - (k + 1)))) (inside (numbers (k + 1) (n - (k + 1)))) (rw (pairs_next n k h) at u.ready)

  pub run_numbers_end : n ≤ k → Run e s₀ s all (inside (numbers k (n - k))) → s ≡ list_of e s₀ all
  run_numbers_end h u = run_end (rw (pairs_end n k h) at u)

  -- a loop whose turn k lists f k: the rows of a cell, the cells of a grid
  pub run_each : (f : ℕ → List (ℕ × ℕ)) → k < n → (r : Listing) → Run e s₀ s all (each f (numbers k (n - k))) → r ≡ list_of e s (f k) → Run e s₀ r all (each f (numbers (k + 1) (n - (k + 1))))
  run_each f h r u q = run_part (f k) (each f (numbers (k + 1) (n - (k + 1)))) r (rw (each_next f n k h) at u) q

  pub ready_each : (f : ℕ → List (ℕ × ℕ)) → k < n → Run e s₀ s all (each f (numbers k (n - k))) → Ready s.tally (length (f k))
  ready_each f h u = ready_first (f k) (each f (numbers (k + 1) (n - (k + 1)))) (rw (each_next f n k h) at u.ready)

  pub run_each_end : (f : ℕ → List (ℕ × ℕ)) → n ≤ k → Run e s₀ s all (each f (numbers k (n - k))) → s ≡ list_of e s₀ all
  run_each_end f h u = run_end (rw (each_end f n k h) at u)

-- where the loops begin: at 0 all of it is left
pub run_each_begin : {e : Scene} {s : Listing} (f : ℕ → List (ℕ × ℕ)) (n : ℕ) → Ready s.tally (length (each f (up_to n))) → Run e s s (each f (up_to n)) (each f (numbers 0 (n - 0)))
run_each_begin f n h = rw sub-zero (run_begin (each f (up_to n)) h)

pub run_all_pairs : {e : Scene} {s : Listing} (n : ℕ) → Ready s.tally (length (all_pairs n)) → Run e s s (all_pairs n) (inside (numbers 0 (n - 0)))
run_all_pairs n h = rw sub-zero (run_begin (all_pairs n) h)
