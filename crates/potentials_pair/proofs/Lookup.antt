-- The test of a species table one step at a time; the lookup by halving in ascending tables is the lookup by membership (`looks`, `rows-found`, and of the two functions `looks-all`). Assumes nothing.
use mathlib.Core.Path.{◌≡◌, refl, sym, ap, ap₂, ◌∙◌}
use mathlib.Core.Logic.{⊎_elim}
use mathlib.Core.Bool.{Bool, true, false}
use mathlib.Core.List.{List, [], ◌∷◌}
use Prim.Native.Nat.{ℕ, zero, suc, ◌+◌, ◌-◌, ◌<◌, ◌≤◌}
use native.Mathlib.Nat.{not-suc-le-zero, zero-add}
use native.Mathlib.Omega.{arith}
use borrow.Author.Tests.{ltb-true, ltb-false, lt-ltb, le-ltb, ne_eqb}
use lib.Dec.{eqb, ltb}
use lib.Ieee.{Float}
use lib.ListN.{length, get_or, drop}
use Rattle.lists.specs.Lists.{up_to, every, first_where}
use Rattle.lists.proofs.Cases.{true_or_false, and_both, below_or, below_or_is}
use Rattle.lists.proofs.Exactness.{numbers_at, length_up_to}
use Rattle.lists.proofs.Halving.{Split, Falling, halved_splits}
use Rattle.lists.proofs.Walks.{every_passes, every_fails, every_past, every_at}
use Rattle.potentials_pair.specs.declared.Lj.{Lj}
use Rattle.potentials_pair.specs.declared.Mixed.{Mixed}
use Rattle.potentials_pair.specs.Species.{Tables, rising, or_else, numbers_in, row_in, row_of, look_of, place_in, is_at, row_in_by, row_by, look_by}

-- ---- the test, at place k
abbrev below : List ℕ → ℕ → Bool
below ids k = ltb (get_or ids k 0) (get_or ids (k + 1) 0)

module _ (ids : List ℕ) (k : ℕ) where
  abbrev pub left : Bool
  left = every (below ids) (drop k (up_to (length ids - 1)))

  at_k : k + 1 < length ids → get_or (up_to (length ids - 1)) k 0 ≡ k
  at_k h = numbers_at 0 (length ids - 1) k (omega arith) ∙ zero-add k

  pub rising_passes : k + 1 < length ids → below ids k ≡ true → left ≡ every (below ids) (drop (k + 1) (up_to (length ids - 1)))
  rising_passes h t =
      every_passes 0 (up_to (length ids - 1)) k (below ids) (omega (arith, length_up_to (length ids - 1))) (ap (below ids) (at_k h) ∙ t)

  pub rising_fails : k + 1 < length ids → below ids k ≡ false → left ≡ false
  rising_fails h t =
      every_fails 0 (up_to (length ids - 1)) k (below ids) (omega (arith, length_up_to (length ids - 1))) (ap (below ids) (at_k h) ∙ t)

  pub rising_past : length ids ≤ k + 1 → left ≡ true
  rising_past h = every_past 0 (up_to (length ids - 1)) k (below ids) (omega (arith, length_up_to (length ids - 1)))

-- ---- what the test says
module _ (ids : List ℕ) (h : rising ids ≡ true) where
  next : (k : ℕ) → k + 1 < length ids → get_or ids k 0 < get_or ids (k + 1) 0
  unfolding rising
  next k l =
      ltb-true _ _
      (sym (ap (below ids) (at_k ids k l))
      ∙ every_at 0 (below ids) (up_to (length ids - 1)) h k (omega (arith, length_up_to (length ids - 1))))

  pub ascends : (j k : ℕ) → j < k → k < length ids → get_or ids j 0 < get_or ids k 0
  ascends j zero a b = absurd (not-suc-le-zero a)
  ascends j (suc k) a b =
      let e : k + 1 ≡ suc k = omega arith in
      let s : get_or ids k 0 < get_or ids (suc k) 0 = rw e at (next k (omega arith)) in
      ⊎_elim (λ (r : j < k). omega (arith, ascends j k r (omega arith))) (λ (r : j ≡ k). rw r s) (below_or_is j k a)

-- ---- the first place of a search, told by what stands there and before
module _ (q : ℕ → Bool) where
  first_is : (l : List ℕ) (k : ℕ) → k < length l → q (get_or l k 0) ≡ true → ((j : ℕ) → j < k → q (get_or l j 0) ≡ false) → first_where q l ≡ k
  unfolding first_where
  first_is [] k lt t f = absurd (not-suc-le-zero lt)
  first_is (a ∷ l) zero lt t f = rw t
  first_is (a ∷ l) (suc k) lt t f = rw (f 0 (omega arith)) (ap suc (first_is l k (omega arith) t (λ j s. f (suc j) (omega arith))))

  first_none : (l : List ℕ) → ((j : ℕ) → j < length l → q (get_or l j 0) ≡ false) → first_where q l ≡ length l
  unfolding first_where
  first_none [] f = refl
  first_none (a ∷ l) f = rw (f 0 (omega arith)) (ap suc (first_none l (λ j s. f (suc j) (omega arith))))

-- ---- THE LOOKUP
module _ (ids : List ℕ) (h : rising ids ≡ true) (z : ℕ) where
  falls : Falling (λ k. ltb (get_or ids k 0) z) (length ids)
  falls j k a b e = lt-ltb (get_or ids j 0) z (omega (arith, ascends ids h j k a b, ltb-true (get_or ids k 0) z e))

  splits : Split (λ k. ltb (get_or ids k 0) z) (length ids) (place_in ids z)
  unfolding place_in
  splits = halved_splits (λ k. ltb (get_or ids k 0) z) (length ids) falls

  earlier : (j : ℕ) → j < place_in ids z → eqb (get_or ids j 0) z ≡ false
  earlier j s = ne_eqb (get_or ids j 0) z (λ e. omega (arith, ltb-true (get_or ids j 0) z (splits.before j s)))

  found : is_at ids (place_in ids z) z ≡ true → (place_in ids z < length ids) × (first_where (λ id. eqb id z) ids ≡ place_in ids z)
  unfolding is_at
  found e =
      let r = and_both (ltb (place_in ids z) (length ids)) (eqb (get_or ids (place_in ids z) 0) z) e in
      let l = ltb-true _ _ r.0 in
      (l, first_is (λ id. eqb id z) ids (place_in ids z) l r.1 earlier)

  later : is_at ids (place_in ids z) z ≡ false → (j : ℕ) → j < length ids → place_in ids z ≤ j → eqb (get_or ids j 0) z ≡ false
  unfolding is_at
  later e j l s =
      let p = place_in ids z in
      let differ : eqb (get_or ids p 0) z ≡ false = rw (lt-ltb p (length ids) (omega arith)) at e in
      let above : z ≤ get_or ids p 0 = ltb-false _ _ (splits.after p (omega arith) (omega arith)) in
      ⊎_elim (λ (r : p < j). ne_eqb (get_or ids j 0) z (λ t. omega (arith, ascends ids h p j r l)))
      (λ (r : j ≤ p). let same : j ≡ p = omega arith in rw same differ) (below_or p j)

  missing : is_at ids (place_in ids z) z ≡ false → first_where (λ id. eqb id z) ids ≡ length ids
  missing e =
      first_none (λ id. eqb id z) ids
      (λ j l. ⊎_elim (λ s. earlier j s) (λ s. later e j l s) (below_or j (place_in ids z)))

  pub looks : (params : List Float) → row_in_by ids params z ≡ row_in ids params z
  unfolding row_in_by row_in
  looks params =
      ⊎_elim
      (λ (e : is_at ids (place_in ids z) z ≡ true). rw (e, (found e).1, lt-ltb _ _ (found e).0))
      (λ (e : is_at ids (place_in ids z) z ≡ false). rw (e, missing e, le-ltb (length ids) (length ids) (omega arith)))
      (true_or_false (is_at ids (place_in ids z) z))

module _ (t : Tables) (own : rising t.own_ids ≡ true) (house : rising t.ids ≡ true) where
  pub rows_found : (z : ℕ) → row_by t z ≡ row_of t z
  unfolding row_by row_of
  rows_found z = ap₂ or_else (looks t.own_ids own z t.own_params) (looks t.ids house z t.params)

  looked : (lj : Lj) (z : ℕ) → look_by t lj z ≡ look_of t lj z
  unfolding look_by look_of
  looked lj z = ap (λ (row : List Float). numbers_in row lj) (rows_found z)

  pub looks_all : (lj : Lj) → ◌≡◌ {A = ℕ → Mixed} (look_by t lj) (look_of t lj)
  looks_all lj = λ i z. looked lj z i
