-- The totals of the shells, as the pairs are added to them one after the other or taken back. Assumes nothing.
use Prim.Native.Nat.{ℕ, zero, suc, ◌+◌, ◌-◌, ◌≤◌, ◌<◌}
use mathlib.Core.Path.{◌≡◌, refl, sym, ap, ◌∙◌}
use mathlib.Core.Logic.{⊎_elim}
use mathlib.Core.Bool.{Bool, true, false, cond}
use mathlib.Core.List.{List, [], ◌∷◌, ◌++◌}
use native.Mathlib.Nat.{add-zero}
use native.Mathlib.Numerals.{add-one}
use native.Mathlib.Omega.{arith}
use lib.ListN.{length, get_or, set, take, length-set}
use lib.Seq.{take-suc, take_all, ext_get_or, get_or-set_same, get_or-set_other}
use lib.Dec.{eqb, ltb}
use borrow.Author.Tests.{eq-eqb, ne_eqb, lt-ltb, le-ltb}
use Rattle.lists.specs.Lists.{how_many}
use Rattle.lists.specs.Loops.{map_at}
use Rattle.lists.proofs.Cases.{same_or, by_test}
use Rattle.lists.proofs.Loops.{get_d_map_at, length_map_at}
use Rattle.lists.proofs.Walks.{some_at, none_at}
use Rattle.shells.specs.Shells.{totals_with, is_past}
use Rattle.shells.specs.Steps.{totals_without, AddedSome}

-- ---- how many of a list's front
module _ {A : Type 0} (q : A → Bool) where
  many_append : (s t : List A) → how_many q (s ++ t) ≡ how_many q s + how_many q t
  unfolding how_many
  many_append [] t = omega arith
  many_append (a ∷ s) t =
      by_test (λ b. cond b (suc (how_many q (s ++ t))) (how_many q (s ++ t)) ≡ cond b (suc (how_many q s)) (how_many q s) + how_many q t) (q a)
      (λ e. omega (arith, many_append s t)) (λ e. many_append s t)

  many_one : (a : A) → how_many q (a ∷ []) ≡ cond (q a) 1 0
  unfolding how_many
  many_one a = refl

  module _ (d : A) (l : List A) (k : ℕ) (h : k < length l) where
    pub many_hit : q (get_or l k d) ≡ true → how_many q (take (k + 1) l) ≡ how_many q (take k l) + 1
    many_hit e =
        rw (add-one k, take-suc l k d h)
        (many_append (take k l) (get_or l k d ∷ []) ∙ ap (λ (n : ℕ). how_many q (take k l) + n) (many_one (get_or l k d) ∙ rw e))

    pub many_miss : q (get_or l k d) ≡ false → how_many q (take (k + 1) l) ≡ how_many q (take k l)
    many_miss e =
        rw (add-one k, take-suc l k d h)
        (many_append (take k l) (get_or l k d ∷ []) ∙ ap (λ (n : ℕ). how_many q (take k l) + n) (many_one (get_or l k d) ∙ rw e) ∙ add-zero _)

  pub many_part : (k : ℕ) (l : List A) → how_many q (take k l) ≤ how_many q l
  unfolding how_many
  many_part zero l = omega arith
  many_part (suc k) [] = omega arith
  many_part (suc k) (a ∷ l) =
      by_test (λ b. cond b (suc (how_many q (take k l))) (how_many q (take k l)) ≤ cond b (suc (how_many q l)) (how_many q l)) (q a)
      (λ e. omega (arith, many_part k l)) (λ e. many_part k l)

-- ---- one turn: a total of the shell changed by a step, where n pairs change it by op
module _ (op : ℕ → ℕ → ℕ) (step : ℕ → ℕ) (next : (t n : ℕ) → op t (n + 1) ≡ step (op t n)) (none : (t : ℕ) → op t 0 ≡ t) (shell : ℕ × ℕ → ℕ) where
  abbrev of : ℕ → ℕ × ℕ → Bool
  of k p = eqb (shell p) k

  abbrev by : List (ℕ × ℕ) → ℕ → ℕ → ℕ
  by ps k total = op total (how_many (of k) ps)

  abbrev changed : List (ℕ × ℕ) → List ℕ → List ℕ
  changed ps totals = map_at (by ps) totals

  module _ (ps : List (ℕ × ℕ)) (k : ℕ) (h : k < length ps) (before now : List ℕ) (is : now ≡ changed (take k ps) before) (l : shell (get_or ps k (0, 0)) < length before) where
    abbrev s : ℕ
    s = shell (get_or ps k (0, 0))

    now_long : length now ≡ length before
    now_long = ap length is ∙ length_map_at (by (take k ps)) 0 before

    now_at : (i : ℕ) → i < length before → get_or now i 0 ≡ op (get_or before i 0) (how_many (of i) (take k ps))
    now_at i b = ap (λ (t : List ℕ). get_or t i 0) is ∙ get_d_map_at (by (take k ps)) 0 i before b

    module _ (v : ℕ) (e : v ≡ step (get_or now s 0)) where
      at : (i : ℕ) → i < length before → get_or (set now s v) i 0 ≡ op (get_or before i 0) (how_many (of i) (take (k + 1) ps))
      at i b =
          ⊎_elim
          (λ (same : i ≡ s).
          rw (many_hit (of i) (0, 0) ps k h (eq-eqb s i (sym same)), next)
          (ap (λ (t : ℕ). get_or (set now s v) t 0) same ∙ get_or-set_same now s v 0 (rw now_long l) ∙ e ∙ ap (λ (t : ℕ). step (get_or now t 0)) (sym same) ∙ ap step (now_at i b)))
          (λ (other : i ≡ s → ⊥).
          rw (many_miss (of i) (0, 0) ps k h (ne_eqb s i (λ q. other (sym q))))
          (get_or-set_other now s i v 0 other ∙ now_at i b))
          (same_or i s)

      pub turn : set now s v ≡ changed (take (k + 1) ps) before
      turn =
          ext_get_or 0 (set now s v) (changed (take (k + 1) ps) before)
          (length-set now s v ∙ now_long ∙ sym (length_map_at (by (take (k + 1) ps)) 0 before))
          (λ i b. let b' : i < length before = omega (arith, length-set now s v, now_long) in at i b' ∙ sym (get_d_map_at (by (take (k + 1) ps)) 0 i before b'))

  pub start : (ps : List (ℕ × ℕ)) (before : List ℕ) → before ≡ changed (take 0 ps) before
  unfolding how_many
  start ps before =
      ext_get_or 0 before (changed (take 0 ps) before) (sym (length_map_at (by (take 0 ps)) 0 before))
      (λ i b. sym (get_d_map_at (by (take 0 ps)) 0 i before b ∙ none (get_or before i 0)))

-- ---- the pairs added
abbrev most : ℕ
most = 18446744073709551615

-- on the way: the first k are added, and each total still fits
pub record AddedUpTo (shell : ℕ × ℕ → ℕ) (ps : List (ℕ × ℕ)) (before : List ℕ) (k : ℕ) (now : List ℕ) : Type 0 where
  pub some : k ≤ length ps
  pub is : now ≡ totals_with shell (take k ps) before
  pub fit : (i : ℕ) → get_or now i 0 ≤ 18446744073709551615

module _ (shell : ℕ × ℕ → ℕ) (ps : List (ℕ × ℕ)) (before : List ℕ) where
  pub grown_long : length (totals_with shell ps before) ≡ length before
  unfolding totals_with
  grown_long = length_map_at (λ k total. total + how_many (λ p. eqb (shell p) k) ps) 0 before

  pub grown_at : (k : ℕ) → k < length before → get_or (totals_with shell ps before) k 0 ≡ get_or before k 0 + how_many (λ p. eqb (shell p) k) ps
  unfolding totals_with
  grown_at k h = get_d_map_at (λ k total. total + how_many (λ p. eqb (shell p) k) ps) 0 k before h

  pub up_start : ((i : ℕ) → get_or before i 0 ≤ most) → AddedUpTo shell ps before 0 before
  unfolding totals_with
  up_start h = record { some = omega arith; is = start ◌+◌ (λ t. t + 1) (λ t n. omega arith) (λ t. omega arith) shell ps before; fit = h }

  module _ {k : ℕ} {now : List ℕ} (u : AddedUpTo shell ps before k now) where
    pub up_long : length now ≡ length before
    unfolding totals_with
    up_long = ap length u.is ∙ length_map_at (λ i total. total + how_many (λ p. eqb (shell p) i) (take k ps)) 0 before

    pub up_end : length ps ≤ k → AddedSome shell ps before k now
    unfolding is_past
    up_end h =
        let all : now ≡ totals_with shell ps before = u.is ∙ ap (λ (l : List (ℕ × ℕ)). totals_with shell l before) (take_all k ps h) in
        record {
          most = u.some;
          left = u.is;
          full = λ l. absurd (omega arith);
          fits = λ _. rw (← all) (none_at 0 (λ t. ltb most t) now (λ i l. le-ltb most (get_or now i 0) (u.fit i)));
        }

    module _ (h : k < length ps) {s : ℕ} (e : s ≡ shell (get_or ps k (0, 0))) (l : s < length before) where
      pub up_turn : (get_or now s 0 ≡ most → ⊥) → AddedUpTo shell ps before (k + 1) (set now s (get_or now s 0 + 1))
      unfolding totals_with
      up_turn free =
          record {
            some = omega arith;
            is =
                rw e
                (turn ◌+◌ (λ t. t + 1) (λ t n. omega arith) (λ t. omega arith) shell ps k h before now u.is (rw e at l) (get_or now (shell (get_or ps k (0, 0))) 0 + 1) refl);
            fit =
                λ i.
                ⊎_elim
                (λ (same : i ≡ s). rw (same, get_or-set_same now s (get_or now s 0 + 1) 0 (rw up_long l)) (omega (arith, u.fit s, free)))
                (λ (other : i ≡ s → ⊥). rw (get_or-set_other now s i (get_or now s 0 + 1) 0 other) (u.fit i))
                (same_or i s);
          }

      pub up_full : get_or now s 0 ≡ most → AddedSome shell ps before k now
      unfolding is_past
      up_full full =
          record {
            most = u.some;
            left = u.is;
            full =
                λ _.
                some_at 0 (λ t. ltb most t) (totals_with shell ps before) s (rw grown_long l)
                (lt-ltb most (get_or (totals_with shell ps before) s 0) (rw (grown_at s l) past));
            fits = λ q. absurd (omega arith);
          }
        where
          now_is : get_or now s 0 ≡ get_or before s 0 + how_many (λ p. eqb (shell p) s) (take k ps)
          now_is = ap (λ (t : List ℕ). get_or t s 0) u.is ∙ front
            where
              front : get_or (totals_with shell (take k ps) before) s 0 ≡ get_or before s 0 + how_many (λ p. eqb (shell p) s) (take k ps)
              front = unfold totals_with in get_d_map_at (λ i total. total + how_many (λ p. eqb (shell p) i) (take k ps)) 0 s before l

          past : most < get_or before s 0 + how_many (λ p. eqb (shell p) s) ps
          past =
              omega (
                arith,
                now_is,
                full,
                many_part (λ p. eqb (shell p) s) (k + 1) ps,
                many_hit (λ p. eqb (shell p) s) (0, 0) ps k h (eq-eqb (shell (get_or ps k (0, 0))) s (sym e)),
              )

-- ---- and taken back
-- on the way: the first k are taken off
pub record TakenUpTo (shell : ℕ × ℕ → ℕ) (ps : List (ℕ × ℕ)) (before : List ℕ) (k : ℕ) (now : List ℕ) : Type 0 where
  pub is : now ≡ totals_without shell (take k ps) before

module _ (shell : ℕ × ℕ → ℕ) (ps : List (ℕ × ℕ)) (before : List ℕ) where
  pub down_start : TakenUpTo shell ps before 0 before
  unfolding totals_without
  down_start = record { is = start ◌-◌ (λ t. t - 1) (λ t n. omega arith) (λ t. omega arith) shell ps before }

  module _ {k : ℕ} {now : List ℕ} (u : TakenUpTo shell ps before k now) where
    pub down_long : length now ≡ length before
    unfolding totals_without
    down_long = ap length u.is ∙ length_map_at (λ i total. total - how_many (λ p. eqb (shell p) i) (take k ps)) 0 before

    pub down_turn : k < length ps → {s v : ℕ} → s ≡ shell (get_or ps k (0, 0)) → s < length before → v ≡ get_or now s 0 - 1 → TakenUpTo shell ps before (k + 1) (set now s v)
    unfolding totals_without
    down_turn h {s} {v} e l ev =
        record {
          is =
              rw e
              (turn ◌-◌ (λ t. t - 1) (λ t n. omega arith) (λ t. omega arith) shell ps k h before now u.is (rw e at l) v (rw e at ev));
        }

    pub down_end : (n : ℕ) → k ≡ n → now ≡ totals_without shell (take n ps) before
    down_end n e = u.is ∙ ap (λ (m : ℕ). totals_without shell (take m ps) before) e

  -- what was added is taken back
  pub back : totals_without shell ps (totals_with shell ps before) ≡ before
  unfolding totals_without
  back =
      ext_get_or 0 (map_at less (totals_with shell ps before)) before (length_map_at less 0 (totals_with shell ps before) ∙ grown_long shell ps before)
      (λ i b.
      let b' : i < length (totals_with shell ps before) = omega (arith, length_map_at less 0 (totals_with shell ps before)) in
      get_d_map_at less 0 i (totals_with shell ps before) b'
      ∙ omega (arith, grown_at shell ps before i (omega (arith, grown_long shell ps before))))
    where
      less : ℕ → ℕ → ℕ
      less k total = total - how_many (λ p. eqb (shell p) k) ps

-- all or none: where a total was full, the totals are as they were
module _ (shell : ℕ → ℕ × ℕ → ℕ) (ps : List (ℕ × ℕ)) (before : List ℕ) {k : ℕ} {mid : List ℕ} (a : AddedSome (shell (length before)) ps before k mid) where
  pub some_long : length mid ≡ length before
  some_long = ap length a.left ∙ grown_long (shell (length before)) (take k ps) before

  pub taken_back : {last : List ℕ} → last ≡ totals_without (shell (length mid)) (take k ps) mid → last ≡ before
  taken_back e =
      e
      ∙ ap (λ (n : ℕ). totals_without (shell n) (take k ps) mid) some_long
      ∙ ap (totals_without (shell (length before)) (take k ps)) a.left
      ∙ back (shell (length before)) (take k ps) before

  pub all_added : length ps ≤ k → mid ≡ totals_with (shell (length before)) ps before
  all_added h = a.left ∙ ap (λ (l : List (ℕ × ℕ)). totals_with (shell (length before)) l before) (take_all k ps h)
