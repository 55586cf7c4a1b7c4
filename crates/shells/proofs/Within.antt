-- What the listed pairs of an answered build are, counted over all pairs of the frame's atoms. Assumes nothing.
use Prim.Native.Nat.{ℕ, ◌+◌, ◌-◌, ◌/◌, ◌≤◌, ◌<◌, min}
use mathlib.Core.Path.{◌≡◌, sym, ap, ◌∙◌}
use mathlib.Core.Logic.{⊎_elim}
use mathlib.Core.Bool.{Bool, true, false, cond, not, ◌&&◌}
use mathlib.Core.List.{List}
use native.Mathlib.Omega.{arith}
use lib.ListN.{length}
use lib.Dec.{eqb, ltb, leb}
use borrow.Author.Tests.{eq-eqb, ne_eqb, le-leb, lt-leb, leb-true, ltb-true, ltb-false, not-true}
use Rattle.lists.specs.Exact.{Exactly}
use Rattle.lists.specs.Lists.{how_many, keep, all_pairs, rows, Two}
use Rattle.lists.proofs.Cases.{by_test, same_or, below_or, and_both, both_and}
use Rattle.lists.proofs.Exactness.{equally_long, exactly_keep, exactly_as, all_exactly, many_keep}
use Rattle.exclusions.specs.Table.{is_row}
use Rattle.frame.specs.Distance.{square_of}
use Rattle.frame.specs.Build.{Given}
use Rattle.frame.specs.Listed.{Close}
use Rattle.shells.specs.Shells.{shell_of, shell_at}
use Rattle.shells.specs.Theorems.{squared_for, is_within, pairs_within, in_shell, pairs_in_shell}

-- ---- a shell by its number, and by the words
shell_in : (width shells k square : ℕ) → k < shells → eqb (shell_of width shells square) k ≡ in_shell width shells k square
unfolding shell_of in_shell
shell_in width shells k square h =
    by_test (λ t. eqb (min (square / width) (shells - 1)) k ≡ cond t (eqb (square / width) k) (leb k (square / width))) (ltb (k + 1) shells) early late
  where
    early : ltb (k + 1) shells ≡ true → eqb (min (square / width) (shells - 1)) k ≡ eqb (square / width) k
    early t =
        let l = ltb-true (k + 1) shells t in
        ⊎_elim
        (λ (e : square / width ≡ k). rw (eq-eqb (square / width) k e) (eq-eqb (min (square / width) (shells - 1)) k (omega arith)))
        (λ (e : square / width ≡ k → ⊥).
        rw (ne_eqb (square / width) k e) (ne_eqb (min (square / width) (shells - 1)) k (λ q. e (omega arith))))
        (same_or (square / width) k)

    late : ltb (k + 1) shells ≡ false → eqb (min (square / width) (shells - 1)) k ≡ leb k (square / width)
    late t =
        let l = ltb-false (k + 1) shells t in
        ⊎_elim
        (λ (e : square / width < k).
        rw (lt-leb k (square / width) e) (ne_eqb (min (square / width) (shells - 1)) k (λ q. omega arith)))
        (λ (e : k ≤ square / width). rw (le-leb k (square / width) e) (eq-eqb (min (square / width) (shells - 1)) k (omega arith)))
        (below_or (square / width) k)

-- ---- a pair by the test, and by demand 3
module _ (i : Given) (p : ℕ × ℕ) where
  within_close : is_within i p ≡ true → Two (length i.coordinates / 3) p → Close i p
  unfolding is_within
  within_close t two =
      let b = and_both (not (is_row p (rows i.exclusions))) (leb (squared_for i p) (square_of i.frame.radius)) t in
      (two, not-true (is_row p (rows i.exclusions)) b.0, leb-true (squared_for i p) (square_of i.frame.radius) b.1)

  close_within : Close i p → is_within i p ≡ true
  unfolding is_within
  close_within c = both_and (not (is_row p (rows i.exclusions))) (leb (squared_for i p) (square_of i.frame.radius)) (ap not c.1) (le-leb (squared_for i p) (square_of i.frame.radius) c.2)

-- ---- of the pairs that demand 3 lists
module _ (i : Given) (listed : List (ℕ × ℕ)) (exact : Exactly (Close i) listed) where
  abbrev n : ℕ
  n = length i.coordinates / 3

  pub listed_many : length listed ≡ pairs_within i
  unfolding pairs_within
  listed_many =
      equally_long listed (keep (is_within i) (all_pairs n)) exact
      (exactly_as (keep (is_within i) (all_pairs n)) (exactly_keep (is_within i) (all_pairs n) (all_exactly n))
      (λ p t. within_close i p t.1 t.0) (λ p c. (c.0, close_within i p c)))
      ∙ sym (many_keep (is_within i) (all_pairs n))

  module _ (width shells k : ℕ) (h : k < shells) where
    abbrev shell : ℕ × ℕ → Bool
    shell p = eqb (shell_at i.frame i.coordinates width shells p) k

    abbrev both : ℕ × ℕ → Bool
    both p = is_within i p && in_shell width shells k (squared_for i p)

    same : (p : ℕ × ℕ) → shell p ≡ in_shell width shells k (squared_for i p)
    unfolding shell_at
    same p = shell_in width shells k (squared_for i p) h

    pub listed_in : how_many shell listed ≡ pairs_in_shell i width shells k
    unfolding pairs_in_shell
    listed_in =
        many_keep shell listed
        ∙ equally_long (keep shell listed) (keep both (all_pairs n)) (exactly_keep shell listed exact)
        (exactly_as (keep both (all_pairs n)) (exactly_keep both (all_pairs n) (all_exactly n))
        (λ p t. let b = and_both (is_within i p) (in_shell width shells k (squared_for i p)) t.1 in (within_close i p b.0 t.0, same p ∙ b.1))
        (λ p c. (c.0.0, both_and (is_within i p) (in_shell width shells k (squared_for i p)) (close_within i p c.0) (sym (same p) ∙ c.1))))
        ∙ sym (many_keep both (all_pairs n))
