-- The exclusions that are left are again an exclusion table; without a mark every atom keeps its number. Assumes nothing.
use Prim.Native.Nat.{ℕ, zero, suc, ◌+◌, ◌*◌, ◌/◌, ◌≤◌, ◌<◌}
use mathlib.Core.Path.{◌≡◌, refl, sym, ap, ◌∙◌}
use mathlib.Core.Logic.{inl, inr, ⊎_elim}
use mathlib.Core.Bool.{Bool, true, ◌&&◌}
use mathlib.Core.List.{List, [], ◌∷◌}
use native.Mathlib.Omega.{arith}
use lib.Dec.{eqb, ltb}
use lib.ListN.{length, get_or, take}
use borrow.Author.Tests.{lt-ltb, ltb-true, eq-eqb, eqb-true}
use Rattle.lists.specs.Lists.{up_to, how_many, rows}
use Rattle.lists.proofs.Cases.{both_and, and_both, below_or, same_or}
use Rattle.lists.proofs.Rows.{length_rows, rows_at}
use Rattle.lists.proofs.Walks.{every_at}
use Rattle.exclusions.specs.Table.{before, leads, is_table}
use Rattle.exclusions.proofs.RowOrder.{Before, before_is, is_before}
use Rattle.exclusions.proofs.Search.{ascending, row_taken, rows_taken}
use Rattle.strike.specs.Closed.{survives, new_number, row_survives}
use Rattle.strike.specs.Calls.{names_left, names_many}
use Rattle.strike.specs.Theorems.{NamesKept, StillATable, NoneStruck}
use Rattle.strike.proofs.Rows.{many_more, many_few}
use Rattle.strike.proofs.Turns.{row_there_at}
use Rattle.strike.proofs.Kept.{from, order, kept}

-- a table by its rows and its steps
table_by : (l : List (ℕ × ℕ)) → ((j : ℕ) → j < length l → (get_or l j (0, 0)).0 < (get_or l j (0, 0)).1) → ((j : ℕ) → suc j < length l → before (get_or l j (0, 0)) (get_or l (suc j) (0, 0)) ≡ true) → is_table l ≡ true
unfolding is_table
table_by [] f g = refl
table_by (p ∷ l) f g =
    both_and (ltb p.0 p.1) (leads p l && is_table l) (lt-ltb p.0 p.1 (f 0 (omega arith)))
    (both_and (leads p l) (is_table l) (lead l (λ h. g 0 (omega arith))) (table_by l (λ j h. f (suc j) (omega arith)) (λ j h. g (suc j) (omega arith))))
  where
    lead : (l : List (ℕ × ℕ)) → (0 < length l → before p (get_or l 0 (0, 0)) ≡ true) → leads p l ≡ true
    lead [] h = unfold leads in refl
    lead (q ∷ l) h = unfold leads in h (omega arith)

-- every row of a table is low before high
low_high : (l : List (ℕ × ℕ)) → is_table l ≡ true → (j : ℕ) → j < length l → (get_or l j (0, 0)).0 < (get_or l j (0, 0)).1
unfolding is_table
low_high [] h j k = absurd (omega arith)
low_high (p ∷ l) h zero k = ltb-true p.0 p.1 (and_both (ltb p.0 p.1) (leads p l && is_table l) h).0
low_high (p ∷ l) h (suc j) k = low_high l (and_both (leads p l) (is_table l) (and_both (ltb p.0 p.1) (leads p l && is_table l) h).1).1 j (omega arith)

module _ (marks t : List ℕ) (h : is_table (rows t) ≡ true) where
  abbrev q : ℕ → Bool
  q = row_survives marks 2 t

  abbrev m : ℕ
  m = length t / 2

  abbrev after : List ℕ
  after = names_left marks 2 t

  held : NamesKept marks 2 t (names_left marks 2 t)
  unfolding names_left
  held = kept 0 (new_number marks) 2 (length t / 2) (row_survives marks 2 t) t (omega arith)

  rises : (i j : ℕ) → survives marks i ≡ true → i < j → new_number marks i < new_number marks j
  unfolding new_number
  rises i j e l = order (survives marks) i j l e

  -- row k, from its old place
  module _ (k : ℕ) (l : k < names_many marks 2 t) where
    old : (o : ℕ) × (o < m) × (q o ≡ true) × (how_many q (up_to o) ≡ k)
    unfolding names_many
    old = from q m k l

    low : get_or after (2 * k) 0 ≡ new_number marks (get_or t (2 * old.0) 0)
    low =
        let e : 2 * how_many q (up_to old.0) + 0 ≡ 2 * k = omega (arith, old.3) in
        let f : 2 * old.0 + 0 ≡ 2 * old.0 = omega arith in
        ap (λ (n : ℕ). get_or after n 0) (sym e) ∙ held.same old.0 0 old.1 old.2 (omega arith) ∙ ap (λ (n : ℕ). new_number marks (get_or t n 0)) f

    high : get_or after (2 * k + 1) 0 ≡ new_number marks (get_or t (2 * old.0 + 1) 0)
    high =
        let e : 2 * how_many q (up_to old.0) + 1 ≡ 2 * k + 1 = omega (arith, old.3) in
        ap (λ (n : ℕ). get_or after n 0) (sym e) ∙ held.same old.0 1 old.1 old.2 (omega arith)

    first_there : survives marks (get_or t (2 * old.0) 0) ≡ true
    first_there = ap (λ (n : ℕ). survives marks (get_or t n 0)) (omega arith) ∙ row_there_at marks 2 t old.0 old.2 0 (omega arith)

    second_there : survives marks (get_or t (2 * old.0 + 1) 0) ≡ true
    second_there = row_there_at marks 2 t old.0 old.2 1 (omega arith)

  module _ where
    many : names_many marks 2 t ≤ length (names_left marks 2 t) / 2
    unfolding names_many
    many = omega (arith, many_few q m, held.long)

    row_of : (k : ℕ) → k < names_many marks 2 t → get_or (take (names_many marks 2 t) (rows after)) k (0, 0) ≡ (get_or after (2 * k) 0, get_or after (2 * k + 1) 0)
    row_of k l = row_taken after (names_many marks 2 t) many k l

    below_there : (k : ℕ) (l : k < names_many marks 2 t) → get_or after (2 * k) 0 < get_or after (2 * k + 1) 0
    below_there k l =
        let o = old k l in
        let r = low_high (rows t) h o.0 (omega (arith, o.1, length_rows t)) in
        let e = rows_at t o.0 o.1 in
        let s : get_or t (2 * o.0) 0 < get_or t (2 * o.0 + 1) 0 = rw e at r in
        omega (arith, low k l, high k l, rises (get_or t (2 * o.0) 0) (get_or t (2 * o.0 + 1) 0) (first_there k l) s)

    next_there : (k : ℕ) → suc k < names_many marks 2 t → before (get_or after (2 * k) 0, get_or after (2 * k + 1) 0) (get_or after (2 * suc k) 0, get_or after (2 * suc k + 1) 0) ≡ true
    next_there k l =
        let a = omega_lt k l in
        let o = old k a in
        let p = old (suc k) l in
        let less : o.0 < p.0 =
        ⊎_elim (λ (x : o.0 < p.0). x) (λ (x : p.0 ≤ o.0). absurd (apart k o.0 p.0 p.2 o.3 p.3 x)) (below_or o.0 p.0) in
        let b = ascending (rows t) h o.0 p.0 less (omega (arith, p.1, length_rows t)) in
        let c : before (get_or t (2 * o.0) 0, get_or t (2 * o.0 + 1) 0) (get_or t (2 * p.0) 0, get_or t (2 * p.0 + 1) 0) ≡ true = rw (rows_at t o.0 o.1, rows_at t p.0 p.1) at b in
        rw (low k a, high k a, low (suc k) l, high (suc k) l)
        (is_before (new_number marks (get_or t (2 * o.0) 0), new_number marks (get_or t (2 * o.0 + 1) 0)) (new_number marks (get_or t (2 * p.0) 0), new_number marks (get_or t (2 * p.0 + 1) 0)) (moved (get_or t (2 * o.0) 0) (get_or t (2 * o.0 + 1) 0) (get_or t (2 * p.0) 0) (get_or t (2 * p.0 + 1) 0) (first_there k a) (second_there k a) (before_is (get_or t (2 * o.0) 0, get_or t (2 * o.0 + 1) 0) (get_or t (2 * p.0) 0, get_or t (2 * p.0 + 1) 0) c)))
      where
        omega_lt : (k : ℕ) → suc k < names_many marks 2 t → k < names_many marks 2 t
        omega_lt k l = omega arith

        moved : (a b c d : ℕ) → survives marks a ≡ true → survives marks b ≡ true → Before (a, b) (c, d) → Before (new_number marks a, new_number marks b) (new_number marks c, new_number marks d)
        moved a b c d x y (inl z) = inl (rises a c x z)
        moved a b c d x y (inr z) = inr (ap (new_number marks) z.0, rises b d y z.1)

        apart : (k o p : ℕ) → q p ≡ true → how_many q (up_to o) ≡ k → how_many q (up_to p) ≡ suc k → p ≤ o → ⊥
        apart k o p e a b x =
            ⊎_elim (λ (s : p ≡ o). omega (arith, a, b, ap (λ (n : ℕ). how_many q (up_to n)) s))
            (λ (s : p ≡ o → ⊥). let l : p < o = omega (arith, s) in omega (arith, a, b, order q p o l e)) (same_or p o)

  still_table : is_table (take (names_many marks 2 t) (rows after)) ≡ true
  still_table =
      let n = rows_taken after (names_many marks 2 t) many in
      table_by (take (names_many marks 2 t) (rows after))
      (λ j l. let x : j < names_many marks 2 t = omega (arith, n) in rw (row_of j x) (below_there j x))
      (λ j l. let x : j < names_many marks 2 t = omega (arith, n) in let y : suc j < names_many marks 2 t = omega (arith, n) in rw (row_of j x, row_of (suc j) y) (next_there j y))

pub exclusions_still : (marks exclusions : List ℕ) → StillATable marks exclusions
exclusions_still marks exclusions h = still_table marks exclusions h

-- no mark: each atom survives, and as many are before it as its number
pub none_struck : (marks : List ℕ) → NoneStruck marks
unfolding new_number
none_struck marks h i l = go i l
  where
    stays : (k : ℕ) → k < length marks → survives marks k ≡ true
    stays k m = unfold survives in both_and (ltb k (length marks)) (eqb (get_or marks k 0) 0) (lt-ltb k (length marks) m) (eq-eqb (get_or marks k 0) 0 (sym (eqb-true 0 (get_or marks k 0) (every_at 0 (eqb 0) marks h k m))))

    go : (i : ℕ) → i ≤ length marks → how_many (survives marks) (up_to i) ≡ i
    go zero l = omega (arith, many_few (survives marks) 0)
    go (suc i) l =
        ap (λ (n : ℕ). how_many (survives marks) (up_to n)) (omega arith) ∙ many_more (survives marks) i (stays i (omega arith)) ∙ omega (arith, go i (omega arith))
