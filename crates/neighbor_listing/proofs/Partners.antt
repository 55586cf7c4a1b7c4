-- The highest partner of each low atom: the loop that finds it, and the lookup that it spares. Assumes nothing.
use Prim.Native.Nat.{ℕ, ◌+◌, ◌/◌, ◌≤◌, ◌<◌, max}
use mathlib.Core.Path.{◌≡◌, refl, sym, ap, ◌∙◌}
use mathlib.Core.Logic.{⊎_elim}
use mathlib.Core.Bool.{Bool, true, false, ◌&&◌}
use mathlib.Core.List.{List, ◌++◌}
use native.Mathlib.Omega.{arith}
use lib.Dec.{ltb, eqb}
use lib.ListN.{length, get_or, set, take, drop, replicate, length-set, length-append, length-replicate, get_or-replicate}
use lib.Seq.{get_or-set_same, get_or-set_other, get_or-take, take_at, length-take-le}
use borrow.Author.Tests.{ltb-true, lt-ltb, le-ltb, eqb-true}
use Rattle.lists.specs.Lists.{rows}
use Rattle.lists.proofs.Loops.{room_front}
use Rattle.lists.proofs.Rows.{rows_at, length_rows}
use Rattle.lists.proofs.Walks.{some_at}
use Rattle.lists.proofs.Cases.{below_or, below_or_is, same_or, true_or_false, and_both}
use Rattle.exclusions.specs.Table.{is_table, is_row, row_at, same_pair, halving_place, looked_up}
use Rattle.exclusions.proofs.Search.{looked_up_lem}
use Rattle.exclusions.proofs.RowOrder.{same_pair_lem, pair_same}
use Rattle.neighbor_listing.specs.Steps.{NamedBelow, Tops, Cleared, clear_of, BlankTops, top_of, looked_in}

-- ---- the loop over the rows: so far those below k
pub record Raised (t start now : List ℕ) (k : ℕ) : Type 0 where
  pub within : k ≤ length t / 2
  pub same : length now ≡ length start
  pub at : (j : ℕ) → j < k → (row_at t j).0 < length now → (row_at t j).1 ≤ get_or now (row_at t j).0 0
  pub named : (a : ℕ) → a < length now → 0 < get_or now a 0 → NamedBelow t k a (get_or now a 0)

pub raised_begin : (t start : List ℕ) → Cleared start → Raised t start start 0
raised_begin t start z = record { within = omega arith; same = refl; at = λ j l. absurd (omega arith); named = λ a l h. absurd (omega (arith, z.zero a l)) }

-- one row more
later : {t : List ℕ} {k a v : ℕ} → NamedBelow t k a v → NamedBelow t (k + 1) a v
later {t} {k} {a} {v} n = record { place = n.place; within = omega (arith, n.within); low_is = n.low_is; high_is = n.high_is }

module _ {t start now : List ℕ} {k : ℕ} (u : Raised t start now k) where
  abbrev raised : List ℕ
  raised = set now (row_at t k).0 (max (get_or now (row_at t k).0 0) (row_at t k).1)

  pub raised_next : k < length t / 2 → {new : List ℕ} → new ≡ raised → Raised t start new (k + 1)
  raised_next more e =
      rw e
      (record {
        within = omega arith;
        same = length-set now (row_at t k).0 _ ∙ u.same;
        at = λ j l h. ⊎_elim (λ (s : (row_at t j).0 ≡ (row_at t k).0). here j l (rw (length-set now (row_at t k).0 (max (get_or now (row_at t k).0 0) (row_at t k).1)) at h) s) (λ (s : (row_at t j).0 ≡ (row_at t k).0 → ⊥). there j l (rw (length-set now (row_at t k).0 (max (get_or now (row_at t k).0 0) (row_at t k).1)) at h) s) (same_or (row_at t j).0 (row_at t k).0);
        named = λ a l h. ⊎_elim (λ (s : a ≡ (row_at t k).0). mine a (rw (length-set now (row_at t k).0 (max (get_or now (row_at t k).0 0) (row_at t k).1)) at l) h s) (λ (s : a ≡ (row_at t k).0 → ⊥). theirs a (rw (length-set now (row_at t k).0 (max (get_or now (row_at t k).0 0) (row_at t k).1)) at l) h s) (same_or a (row_at t k).0);
      })
    where
      mine : (a : ℕ) → a < length now → 0 < get_or raised a 0 → a ≡ (row_at t k).0 → NamedBelow t (k + 1) a (get_or raised a 0)
      mine a l h s =
          let e : get_or raised a 0 ≡ max (get_or now a 0) (row_at t k).1 =
          rw s (get_or-set_same now (row_at t k).0 (max (get_or now (row_at t k).0 0) (row_at t k).1) 0 (rw s at l)) in
          ⊎_elim (λ (b : get_or now a 0 < (row_at t k).1). record { place = k; within = omega arith; low_is = sym s; high_is = omega (arith, e, b) })
          (λ (b : (row_at t k).1 ≤ get_or now a 0).
          let f : get_or now a 0 ≡ get_or raised a 0 = omega (arith, e, b) in
          let n = later (u.named a l (omega (arith, f, h))) in
          record { place = n.place; within = n.within; low_is = n.low_is; high_is = n.high_is ∙ f })
          (below_or (get_or now a 0) (row_at t k).1)

      theirs : (a : ℕ) → a < length now → 0 < get_or raised a 0 → (a ≡ (row_at t k).0 → ⊥) → NamedBelow t (k + 1) a (get_or raised a 0)
      theirs a l h s =
          let e : get_or raised a 0 ≡ get_or now a 0 = get_or-set_other now (row_at t k).0 a (max (get_or now (row_at t k).0 0) (row_at t k).1) 0 s in
          let n = later (u.named a l (omega (arith, e, h))) in
          record { place = n.place; within = n.within; low_is = n.low_is; high_is = n.high_is ∙ sym e }

      here : (j : ℕ) → j < k + 1 → (row_at t j).0 < length now → (row_at t j).0 ≡ (row_at t k).0 → (row_at t j).1 ≤ get_or raised (row_at t j).0 0
      here j l h s =
          rw (s, get_or-set_same now (row_at t k).0 (max (get_or now (row_at t k).0 0) (row_at t k).1) 0 (rw s at h))
          (⊎_elim (λ (m : j < k). let o : (row_at t j).1 ≤ get_or now (row_at t j).0 0 = u.at j m h in let p : (row_at t j).1 ≤ get_or now (row_at t k).0 0 = rw s at o in omega (arith, p))
          (λ (m : j ≡ k). let p : (row_at t j).1 ≡ (row_at t k).1 = ap (λ (n : ℕ). (row_at t n).1) m in omega (arith, p))
          (below_or_is j k (omega arith)))

      there : (j : ℕ) → j < k + 1 → (row_at t j).0 < length now → ((row_at t j).0 ≡ (row_at t k).0 → ⊥) → (row_at t j).1 ≤ get_or raised (row_at t j).0 0
      there j l h s =
          rw (get_or-set_other now (row_at t k).0 (row_at t j).0 (max (get_or now (row_at t k).0 0) (row_at t k).1) 0 s)
          (⊎_elim (λ (m : j < k). u.at j m h) (λ (m : j ≡ k). absurd (s (ap (λ (n : ℕ). (row_at t n).0) m))) (below_or_is j k (omega arith)))

  pub raised_end : length t / 2 ≤ k → Tops t now
  raised_end h = record { at = λ j l m. u.at j (omega arith) m; named = λ a l m. ended (u.named a l m) }
    where
      ended : {a v : ℕ} → NamedBelow t k a v → NamedBelow t (length t / 2) a v
      ended n = record { place = n.place; within = omega (arith, n.within, u.within); low_is = n.low_is; high_is = n.high_is }

-- ---- the test, and the lookup, for the code
module _ (f : List ℕ) (low high : ℕ) where
  pub clear_within : low < length f → ltb (get_or f low 0) high ≡ clear_of f low high
  unfolding clear_of
  clear_within h = rw (lt-ltb low (length f) h)

  pub clear_past : length f ≤ low → false ≡ clear_of f low high
  unfolding clear_of
  clear_past h = rw (le-ltb low (length f) h)

  pub top_within : low < length f → eqb (get_or f low 0) high && ltb 0 high ≡ top_of f low high
  unfolding top_of
  top_within h = rw (lt-ltb low (length f) h)

  pub top_past : length f ≤ low → false ≡ top_of f low high
  unfolding top_of
  top_past h = rw (le-ltb low (length f) h)

  module _ (t : List ℕ) {x : Bool} (is : x ≡ clear_of f low high) where
    pub clear_spares : x ≡ true → false ≡ looked_in f t low high
    unfolding looked_in
    clear_spares e = rw (← is, e)

    module _ (e : x ≡ false) {y : Bool} (top : y ≡ top_of f low high) where
      pub top_spares : y ≡ true → true ≡ looked_in f t low high
      unfolding looked_in
      top_spares s = rw (← is, e, ← top, s)

      pub unclear_looks : y ≡ false → {z : Bool} → z ≡ looked_up t low high → z ≡ looked_in f t low high
      unfolding looked_in
      unclear_looks s q = rw (← is, e, ← top, s) q

-- ---- the lookup: membership
module _ (t f : List ℕ) (w : Tops t f) (low high : ℕ) where
  past : clear_of f low high ≡ true → looked_up t low high ≡ false
  unfolding clear_of looked_up
  past e = ⊎_elim (λ g. absurd (wrong g)) (λ g. g) (true_or_false (looked_up t low high))
    where
      wrong : looked_up t low high ≡ true → ⊥
      wrong g =
          let c = and_both (ltb low (length f)) (ltb (get_or f low 0) high) e in
          let r = and_both (ltb (halving_place t (length t / 2) (low, high)) (length t / 2)) (same_pair (row_at t (halving_place t (length t / 2) (low, high))) (low, high)) g in
          let l = ltb-true (halving_place t (length t / 2) (low, high)) (length t / 2) r.0 in
          let p = pair_same (row_at t (halving_place t (length t / 2) (low, high))) (low, high) r.1 in
          let a : (row_at t (halving_place t (length t / 2) (low, high))).0 ≡ low = ap (λ (q : ℕ × ℕ). q.0) p in
          let b : (row_at t (halving_place t (length t / 2) (low, high))).1 ≡ high = ap (λ (q : ℕ × ℕ). q.1) p in
          let m = w.at (halving_place t (length t / 2) (low, high)) l (omega (arith, a, ltb-true low (length f) c.0)) in
          let n : high ≤ get_or f low 0 = rw (a, b) at m in
          omega (arith, n, ltb-true (get_or f low 0) high c.1)

  -- the highest partner is a row
  there : top_of f low high ≡ true → is_row (low, high) (rows t) ≡ true
  unfolding top_of is_row
  there e =
      let c = and_both (ltb low (length f)) (eqb (get_or f low 0) high && ltb 0 high) e in
      let d = and_both (eqb (get_or f low 0) high) (ltb 0 high) c.1 in
      let s = eqb-true (get_or f low 0) high d.0 in
      let n = w.named low (ltb-true low (length f) c.0) (omega (arith, s, ltb-true 0 high d.1)) in
      let p : row_at t n.place ≡ (low, high) = ap (λ (a : ℕ). (a, (row_at t n.place).1)) n.low_is ∙ ap (λ (b : ℕ). (low, b)) (n.high_is ∙ s) in
      some_at (0, 0) (same_pair (low, high)) (rows t) n.place (omega (arith, length_rows t, n.within))
      (rw (rows_at t n.place n.within) (same_pair_lem (low, high) (row_at t n.place) (sym p)))

  pub looked_in_lem : is_table (rows t) ≡ true → looked_in f t low high ≡ is_row (low, high) (rows t)
  unfolding looked_in
  looked_in_lem h =
      ⊎_elim (λ (e : clear_of f low high ≡ true). rw e (sym (past e) ∙ looked_up_lem t h low high))
      (λ (e : clear_of f low high ≡ false).
      rw e
      (⊎_elim (λ (g : top_of f low high ≡ true). rw g (sym (there g))) (λ (g : top_of f low high ≡ false). rw g (looked_up_lem t h low high)) (true_or_false (top_of f low high))))
      (true_or_false (clear_of f low high))

-- ---- the first n of the room: zeros, then filled
pub blank_cleared : BlankTops (replicate 16384 0)
blank_cleared =
    record {
      long = length-replicate {A = ℕ} 16384 0;
      clear = record { zero = λ k h. get_or-replicate {A = ℕ} 16384 k 0 0 (omega (arith, h, length-replicate {A = ℕ} 16384 0)) };
    }

pub cleared_front : {room : List ℕ} (n : ℕ) → n ≤ length room → Cleared room → Cleared (take n room)
cleared_front {room} n l z =
    record { zero = λ k h. let m : k < n = omega (arith, h, length-take-le n room l) in get_or-take n room k 0 m ∙ z.zero k (omega (arith, m, l)) }

module _ (room : List ℕ) (n : ℕ) (big : length room ≡ 16384) (few : n ≤ 16384) {t done : List ℕ} (w : Tops t done) (same : length done ≡ length (take n room)) where
  done_long : length done ≡ n
  done_long = same ∙ room_front room n big few

  pub tops_part : Tops t (take n (done ++ drop n room))
  tops_part = rw (take_at done (drop n room) n done_long) w

  pub tops_within : n ≤ length (done ++ drop n room)
  tops_within = omega (arith, done_long, length-append done (drop n room))

  pub tops_long : n ≡ length (take n (done ++ drop n room))
  tops_long = sym (length-take-le n (done ++ drop n room) tops_within)
