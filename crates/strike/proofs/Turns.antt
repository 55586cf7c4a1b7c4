-- The loops of closing.rt: where each starts, one turn, and what it leaves. Assumes nothing.
use Prim.Native.Nat.{ℕ, suc, ◌+◌, ◌*◌, ◌-◌, ◌≤◌, ◌<◌}
use mathlib.Core.Path.{◌≡◌, refl, sym, ap, ◌∙◌}
use mathlib.Core.Logic.{⊎_elim}
use mathlib.Core.Bool.{Bool, true, false, cond, not, false≢true}
use mathlib.Core.List.{List, [], ◌∷◌, ◌++◌, map, append-nil}
use native.Mathlib.Nat.{add-zero, zero-add}
use native.Mathlib.Omega.{arith}
use lib.Dec.{eqb, ltb}
use lib.ListN.{length, get_or, set, length-set}
use lib.Seq.{sets, get_or-set_same, get_or-set_other, length-sets}
use borrow.Author.Tests.{ltb-true, lt-ltb, le-ltb, not-false}
use Rattle.lists.specs.Lists.{numbers, up_to, each, keep, how_many, every}
use Rattle.lists.proofs.Cases.{impossible, below_or_is, and_both}
use Rattle.lists.proofs.Exactness.{length_up_to, many_keep, each_append, numbers_at}
use Rattle.lists.proofs.Walks.{numbers_next, numbers_end, every_at}
use Rattle.strike.specs.Closed.{survives, new_number, row_from, row_survives, link_survives, closed_up}
use Rattle.strike.specs.Steps.{Numbered, Carried, Carrying, Closed, CountedTo}
use Rattle.strike.proofs.Rows.{sets_more, sets_past, rows_long, row_agree, row_one, row_below, kept_more, kept_same, many_more, many_same, many_few}

impossible_not : (s : Bool) → s ≡ true → not s ≡ true → ◌≡◌ {A = ℕ} 0 1
impossible_not true e h = absurd (false≢true h)
impossible_not false e h = absurd (false≢true e)

-- ---- a row is carried, number after number
module _ {A : Type 0} (d : A) (f : ℕ → A) (a w : ℕ) (before : List A) where
  pub carry_start : Carrying d f a w 0 before before
  carry_start = record { few = omega arith; left = (let q : w - 0 ≡ w = omega arith in rw (add-zero a, q)); rest = λ j h. refl; long = refl }

  pub carry_turn : (c : ℕ) (mid : List A) (v : A) → c < w → v ≡ f c → Carrying d f a w c before mid → Carrying d f a w (c + 1) before (set mid (a + c) v)
  carry_turn c mid v h e t =
      record {
        few = omega arith;
        left = one ∙ t.left;
        rest = λ j l. get_or-set_other mid (a + c) j v d (λ x. omega arith) ∙ t.rest j (omega arith);
        long = length-set mid (a + c) v ∙ t.long;
      }
    where
      one : sets (set mid (a + c) v) (a + (c + 1)) (map f (numbers (c + 1) (w - (c + 1)))) ≡ sets mid (a + c) (map f (numbers c (w - c)))
      one = let q : a + (c + 1) ≡ suc (a + c) = omega arith in rw (numbers_next w c h, q, e)

  pub carry_done : (c : ℕ) (mid : List A) → w ≤ c → Carrying d f a w c before mid → mid ≡ sets before a (map f (up_to w))
  carry_done c mid h t = nothing ∙ t.left
    where
      nothing : mid ≡ sets mid (a + c) (map f (numbers c (w - c)))
      nothing = rw (numbers_end w c h)

module _ {A : Type 0} (f : ℕ → A) (w to from : ℕ) (before : List A) where
  pub carried_not : (stays s : Bool) → s ≡ stays → not s ≡ true → Carried f w to from stays before to before
  carried_not true s e h = let q : ◌≡◌ {A = ℕ} 0 1 = impossible_not s e h in impossible q
  carried_not false s e h = record { held = refl; next = refl }

  pub carried_on : (stays s : Bool) (after : List A) → s ≡ stays → not s ≡ false → after ≡ sets before (w * to) (map (λ c. f (w * from + c)) (up_to w)) → Carried f w to from stays before (to + 1) after
  unfolding row_from
  carried_on stays s after e n h = let q : stays ≡ true = sym e ∙ not-false s n in record { held = rw q h; next = rw q }

-- one number a row
pub carried_one : {A : Type 0} (f : ℕ → A) (to from : ℕ) (before after : List A) (stays : Bool) → not stays ≡ false → after ≡ set before to (f from) → Carried f 1 to from stays before (to + 1) after
carried_one f to from before after stays n h =
    let q : stays ≡ true = not-false stays n in
    let m : 1 * to ≡ to = omega arith in
    record { held = rw (q, m, row_one f from) h; next = rw q }

-- ---- the rows are closed up, one after the other
module _ {A : Type 0} (f : ℕ → A) (w : ℕ) (q : ℕ → Bool) (before : List A) where
  pub closed_none : Closed f w q 0 before 0 before
  unfolding closed_up keep numbers each how_many
  closed_none = record { held = refl; count = refl }

  pub closed_few : {k r : ℕ} {mid : List A} → Closed f w q k before r mid → r ≤ k
  closed_few {k = k} c = omega (arith, c.count, many_few q k)

  -- what lies behind stays
  pub closed_rest : (d : A) {k r : ℕ} {mid : List A} → Closed f w q k before r mid → (j : ℕ) → w * k ≤ j → get_or mid j d ≡ get_or before j d
  unfolding closed_up
  closed_rest d {k} {r} {mid} c j h =
      ap (λ (t : List A). get_or t j d) c.held
      ∙ sets_past d (each (row_from f w) (keep q (up_to k))) before 0 j
      (omega (arith, rows_long f w (keep q (up_to k)), many_keep q (up_to k), row_below w r k (closed_few c), ap (λ (n : ℕ). w * n) (c.count ∙ many_keep q (up_to k))))

  pub closed_long : {k r : ℕ} {mid : List A} → Closed f w q k before r mid → length mid ≡ length before
  unfolding closed_up
  closed_long {k = k} c = ap length c.held ∙ length-sets before 0 (each (row_from f w) (keep q (up_to k)))

  -- one turn; g is what the row is read as
  pub closed_turn : (g : ℕ → A) (k r s : ℕ) (stays : Bool) (mid after : List A) → Closed f w q k before r mid → stays ≡ q k → (stays ≡ true → (c : ℕ) → c < w → g (w * k + c) ≡ f (w * k + c)) → Carried g w r k stays mid s after → Closed f w q (k + 1) before s after
  unfolding closed_up
  closed_turn g k r s true mid after c e same t =
      record {
        held = t.held ∙ ap (sets mid (w * r)) (row_agree g f w k (same refl)) ∙ ap (λ (m : List A). sets m (w * r) (row_from f w k)) c.held ∙ more ∙ sym (ap (λ (l : List ℕ). sets before 0 (each (row_from f w) l)) (kept_more q k (sym e)));
        count = t.next ∙ omega (arith, c.count, many_more q k (sym e));
      }
    where
      more : sets (sets before 0 (each (row_from f w) (keep q (up_to k)))) (w * r) (row_from f w k) ≡ sets before 0 (each (row_from f w) (keep q (up_to k) ++ (k ∷ [])))
      more =
          sets_more (each (row_from f w) (keep q (up_to k))) (row_from f w k) before 0 (w * r)
          (omega (arith, rows_long f w (keep q (up_to k)), ap (λ (n : ℕ). w * n) (c.count ∙ many_keep q (up_to k))))
          ∙ ap (sets before 0) (sym (each_append (row_from f w) (keep q (up_to k)) (k ∷ []) ∙ ap (λ (l : List A). each (row_from f w) (keep q (up_to k)) ++ l) (unfold each in append-nil (row_from f w k))))
  closed_turn g k r s false mid after c e same t =
      record {
        held = t.held ∙ c.held ∙ sym (ap (λ (l : List ℕ). sets before 0 (each (row_from f w) l)) (kept_same q k (sym e)));
        count = t.next ∙ c.count ∙ sym (many_same q k (sym e));
      }

-- ---- each atom of a row survives: what is left from c decides
module _ (marks : List ℕ) (w : ℕ) (names : List ℕ) (k : ℕ) where
  abbrev pub row_left : ℕ → Bool
  row_left c = every (λ e. survives marks (get_or names (w * k + e) 0)) (numbers c (w - c))

  pub row_start : row_survives marks w names k ≡ row_left 0
  unfolding row_survives
  row_start = let q : w - 0 ≡ w = omega arith in rw q

  module _ (c : ℕ) (h : c < w) where
    pub row_passes : survives marks (get_or names (w * k + c) 0) ≡ true → row_left c ≡ row_left (c + 1)
    unfolding every
    row_passes e = rw (numbers_next w c h, e)

    pub row_fails : survives marks (get_or names (w * k + c) 0) ≡ false → row_left c ≡ false
    unfolding every
    row_fails e = rw (numbers_next w c h, e)

  pub row_past : (c : ℕ) → w ≤ c → row_left c ≡ true
  unfolding every
  row_past c h = rw (numbers_end w c h)

  -- of a row that survives, every atom does, and so is there
  pub row_there_at : row_survives marks w names k ≡ true → (c : ℕ) → c < w → survives marks (get_or names (w * k + c) 0) ≡ true
  unfolding row_survives
  row_there_at e c h =
      let p = every_at 0 (λ j. survives marks (get_or names (w * k + j) 0)) (up_to w) e c (omega (arith, length_up_to w)) in
      let q : get_or (up_to w) c 0 ≡ c = numbers_at 0 w c h ∙ zero-add c in
      rw q at p

pub survivor_below : (marks : List ℕ) (i : ℕ) → survives marks i ≡ true → i < length marks
unfolding survives
survivor_below marks i e = ltb-true i (length marks) (and_both (ltb i (length marks)) (eqb (get_or marks i 0) 0) e).0

-- ---- the new numbers
module _ (marks : List ℕ) where
  pub counted_none : (fresh : List ℕ) → length marks ≤ length fresh → CountedTo marks 0 0 fresh
  unfolding new_number how_many numbers
  counted_none fresh h = record { room = h; count = refl; right = λ i l. absurd (omega arith) }

  pub counted_turn : (k r s : ℕ) (fresh : List ℕ) (b : Bool) → k < length marks → b ≡ survives marks k → s ≡ cond b 1 0 → CountedTo marks k r fresh → CountedTo marks (k + 1) (r + s) (set fresh k r)
  unfolding new_number
  counted_turn k r s fresh b h e f t =
      record {
        room = omega (arith, length-set fresh k r, t.room);
        count = go b e f;
        right = λ i l. ⊎_elim
            (λ below. get_or-set_other fresh k i r 0 (λ x. omega arith) ∙ t.right i below)
            (λ is. ap (λ (j : ℕ). get_or (set fresh k r) j 0) is ∙ get_or-set_same fresh k r 0 (omega (arith, t.room)) ∙ t.count ∙ sym (ap (new_number marks) is))
            (below_or_is i k (omega arith));
      }
    where
      go : (b : Bool) → b ≡ survives marks k → s ≡ cond b 1 0 → r + s ≡ how_many (survives marks) (up_to (k + 1))
      go true e f = omega (arith, t.count, many_more (survives marks) k (sym e))
      go false e f = omega (arith, t.count, many_same (survives marks) k (sym e))

  pub counted_few : {k r : ℕ} {fresh : List ℕ} → CountedTo marks k r fresh → r ≤ k
  unfolding new_number
  counted_few {k = k} t = omega (arith, t.count, many_few (survives marks) k)

  pub all_numbered : (k r : ℕ) (fresh : List ℕ) → length marks ≤ k → CountedTo marks k r fresh → Numbered marks fresh
  all_numbered k r fresh h t = record { room = t.room; right = λ i l. t.right i (omega arith) }

-- an atom of a row that survives: its new number is there
module _ (marks fresh : List ℕ) (t : Numbered marks fresh) (i j : ℕ) (e : i ≡ j) (s : survives marks j ≡ true) where
  pub fresh_there : i < length fresh
  fresh_there = omega (arith, survivor_below marks j s, t.room)

  pub fresh_is : get_or fresh i 0 ≡ new_number marks j
  fresh_is = ap (λ (n : ℕ). get_or fresh n 0) e ∙ t.right j (survivor_below marks j s)

-- a bond or angle that is there, and one that is not
pub link_there : (marks : List ℕ) (w links : ℕ) (names : List ℕ) (k : ℕ) → k < links → link_survives marks w links names k ≡ row_survives marks w names k
unfolding link_survives
link_there marks w links names k h = rw (lt-ltb k links h)

pub link_past : (marks : List ℕ) (w links : ℕ) (names : List ℕ) (k : ℕ) → links ≤ k → link_survives marks w links names k ≡ false
unfolding link_survives
link_past marks w links names k h = rw (le-ltb k links h)

-- a row is asked where nothing has been stored yet
pub row_asked : (marks : List ℕ) (w : ℕ) (mid before : List ℕ) (k : ℕ) → ((c : ℕ) → get_or mid (w * k + c) 0 ≡ get_or before (w * k + c) 0) → row_survives marks w mid k ≡ row_survives marks w before k
unfolding row_survives
row_asked marks w mid before k h = λ i. every (λ c. survives marks (h c i)) (up_to w)
