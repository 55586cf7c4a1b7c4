-- A run that looks up near pairs only: one pair by what the code found, and what the run has counted and stored at its end. Assumes nothing.
use Prim.Native.Nat.{ℕ, ◌+◌, ◌≤◌, ◌<◌}
use mathlib.Core.Path.{◌≡◌, ap, ◌∙◌}
use mathlib.Core.Bool.{Bool, true, false}
use mathlib.Core.List.{List}
use native.Mathlib.Omega.{arith}
use lib.ListN.{length}
use Rattle.lists.proofs.Exactness.{length_keep}
use Rattle.bins.specs.declared.Tally.{Tally}
use Rattle.bins.specs.Listing.{Scene, Listing, pushed, consider_of, list_of, empty_listing, close, checked_of, found_of, laid_of, Ready}
use Rattle.bins.proofs.Runs.{ready_end}
use Rattle.bins.proofs.Laid.{listed, laid_length}
use Rattle.exclusions.specs.Table.{looked_up}
use Rattle.candidates.specs.Checks.{lazy}
use Rattle.candidates.specs.Steps.{judged}
use Rattle.candidates.proofs.Counted.{lazy_found, lazy_checked}

-- ---- one pair, by what the code found: far, near and excluded, near
module _ (table : List ℕ) (s : Listing) (low high : ℕ) {near : Bool} where
  pub settle_far : near ≡ false → record { tally = record { count = s.tally.count; checks = s.tally.checks + 1 }; mem = s.mem } ≡ consider_of (judged table near) s (low, high)
  unfolding consider_of judged lazy
  settle_far h = rw h

  module _ (h : near ≡ true) {x : Bool} (is : x ≡ looked_up table low high) where
    pub settle_skipped : x ≡ true → record { tally = record { count = s.tally.count; checks = s.tally.checks + 1 }; mem = s.mem } ≡ consider_of (judged table near) s (low, high)
    unfolding consider_of judged lazy
    settle_skipped e = rw (h, ← is, e)

    pub settle_near : x ≡ false → (m : List ℕ) → m ≡ pushed s.mem s.tally.count low high
        → record { tally = record { count = s.tally.count + 1; checks = s.tally.checks + 1 }; mem = m } ≡ consider_of (judged table near) s (low, high)
    unfolding consider_of judged lazy
    settle_near e m q = rw (h, ← is, e, q)

-- ---- a run that has ended: it has counted all candidates
pub record Ended (e : Scene) (old : List ℕ) (cands : List (ℕ × ℕ)) (t : Tally) (m : List ℕ) : Type 0 where
  pub count : t.count ≡ length (found_of e cands)
  pub all : t.checks ≡ length cands
  pub mem : m ≡ laid_of old (found_of e cands)
  pub order : t.count ≤ length (checked_of e cands)
  pub few : t.checks < 4294967296
  pub same : length m ≡ length old

pub ended : (e : Scene) (old : List ℕ) (cands : List (ℕ × ℕ)) (t : Tally) (m : List ℕ) → record { tally = t; mem = m } ≡ list_of (lazy e) (empty_listing old) cands
    → Ready (record { count = 0; checks = 0 }) (length cands) → Ended e old cands t m
ended e old cands t m q r =
    let z = ready_end (lazy e) (empty_listing old) cands r in
    let l = listed (lazy e) old cands in
    let mem : m ≡ laid_of old (found_of e cands) = ap (λ (s : Listing). s.mem) (q ∙ l) ∙ ap (laid_of old) (lazy_found e cands) in
    let count : t.count ≡ length (found_of e cands) = ap (λ (s : Listing). s.tally.count) (q ∙ l) ∙ ap length (lazy_found e cands) in
    let t-is : t ≡ (list_of (lazy e) (empty_listing old) cands).tally = ap (λ (s : Listing). s.tally) q in
    record {
      count = count;
      all = ap (λ (s : Listing). s.tally.checks) (q ∙ l) ∙ ap length (lazy_checked e cands);
      mem = mem;
      order = omega (arith, count, length_keep (close e) (checked_of e cands));
      few = rw t-is (omega (arith, z.checks));
      same = ap length mem ∙ laid_length old (found_of e cands);
    }
