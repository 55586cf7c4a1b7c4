-- THEOREM. The clumps of labels: rising, each with its size, and the sizes add up to the atoms. Assumes nothing.
use Prim.Native.Nat.{ℕ, suc, ◌+◌, ◌≤◌, ◌<◌}
use mathlib.Core.Path.{◌≡◌, refl, sym, ap, ◌∙◌}
use mathlib.Core.Bool.{Bool, cond}
use mathlib.Core.Logic.{⊎_elim}
use mathlib.Core.List.Memᴰ
use mathlib.Core.List.{List, [], ◌∷◌, map}
use native.Mathlib.Omega.{arith}
use lib.ListN.{length, get_or}
use lib.Dec.{eqb}
use borrow.Author.Tests.{eq-eqb, ne_eqb, eqb-true}
use Rattle.lists.specs.Exact.{◌∈◌, Once, Exactly}
use Rattle.lists.specs.Lists.{up_to, keep, how_many}
use Rattle.lists.proofs.Cases.{by_test}
use Rattle.lists.proofs.Exactness.{Rising, rising_once, rising_up_to, rising_keep, mem_up_to, up_to_mem, mem_keep, keep_mem, many_keep, exactly_keep, exactly_as, mem_get_d, length_keep, length_up_to}
use Rattle.clumps_label.specs.Label.{labels_of, lowest_of}
use Rattle.clumps_label.specs.Theorems.{Chain, none, Clumped}
use Rattle.clumps_label.proofs.Labels.{label_at, clumped}
use Rattle.clumps_answer.specs.Clumps.{members_of, lowest_atoms, clump_rows}
use Rattle.clumps_answer.specs.Theorems.{added_up, Rises, Clumps}

-- ---- sizes add up: a label more is one more in one clump
hits : (a : ℕ) (ks : List ℕ) → ℕ
hits a ks = how_many (λ i. eqb a i) ks

no_hit : (a : ℕ) (ks : List ℕ) → (a ∈ ks → ⊥) → hits a ks ≡ 0
unfolding hits how_many
no_hit a [] n = refl
no_hit a (k ∷ ks) n =
    rw (ne_eqb a k (λ e. n (Memᴰ.head e))) (no_hit a ks (λ m. n (Memᴰ.tail m)))

one_hit : (a : ℕ) (ks : List ℕ) → Once ks → a ∈ ks → hits a ks ≡ 1
unfolding hits how_many
one_hit a [] o m = absurd (Memᴰ.not-nil m)
one_hit a (k ∷ ks) o m =
    ⊎_elim (λ (e : a ≡ k). rw (eq-eqb a k e) (ap suc (no_hit a ks (λ h. o.0 (Memᴰ.cast (sym e) h)))))
    (λ (h : a ∈ ks). rw (ne_eqb a k (λ e. o.0 (Memᴰ.cast (sym e) h))) (one_hit a ks o.1 h)) (Memᴰ.cases_cons m)

sum_more : (a : ℕ) (labels ks : List ℕ) → added_up (map (members_of (a ∷ labels)) ks) ≡ hits a ks + added_up (map (members_of labels) ks)
unfolding added_up hits how_many members_of
sum_more a labels [] = refl
sum_more a labels (k ∷ ks) =
    by_test
    (λ b. cond b (suc (how_many (λ l. eqb l k) labels)) (how_many (λ l. eqb l k) labels) + added_up (map (members_of (a ∷ labels)) ks) ≡ cond b (suc (hits a ks)) (hits a ks) + (how_many (λ l. eqb l k) labels + added_up (map (members_of labels) ks)))
    (eqb a k) (λ _. omega (arith, sum_more a labels ks)) (λ _. omega (arith, sum_more a labels ks))

sum_none : (ks : List ℕ) → added_up (map (members_of []) ks) ≡ 0
unfolding added_up how_many members_of
sum_none [] = refl
sum_none (k ∷ ks) = omega (arith, sum_none ks)

sum_sizes : (labels ks : List ℕ) → Once ks → ((l : ℕ) → l ∈ labels → l ∈ ks) → added_up (map (members_of labels) ks) ≡ length labels
sum_sizes [] ks o h = sum_none ks
sum_sizes (a ∷ labels) ks o h =
    sum_more a labels ks ∙ omega (arith, one_hit a ks o (h a (Memᴰ.head refl)), sum_sizes labels ks o (λ l m. h l (Memᴰ.tail m)))

-- ---- the clumps of n atoms by the rows of l
many_map : (q : ℕ → Bool) (f : ℕ → ℕ) (l : List ℕ) → how_many q (map f l) ≡ how_many (λ i. q (f i)) l
unfolding how_many
many_map q f [] = refl
many_map q f (a ∷ l) = ap (λ (k : ℕ). cond (q (f a)) (suc k) k) (many_map q f l)

first_of : (f : ℕ → ℕ) (l : List ℕ) → map (λ (p : ℕ × ℕ). p.0) (map (λ i. (i, f i)) l) ≡ l
first_of f [] = refl
first_of f (a ∷ l) = ap (λ (r : List ℕ). a ∷ r) (first_of f l)

second_of : (f : ℕ → ℕ) (l : List ℕ) → map (λ (p : ℕ × ℕ). p.1) (map (λ i. (i, f i)) l) ≡ map f l
second_of f [] = refl
second_of f (a ∷ l) = ap (λ (r : List ℕ). f a ∷ r) (second_of f l)

rises : (l : List ℕ) → Rising l → Rises l
rises [] h = tt
rises (a ∷ l) h = (h.0, rises l h.1)

module _ (n : ℕ) (l : List (ℕ × ℕ)) where
  labels : List ℕ
  labels = labels_of n l

  is : Clumped n l labels
  unfolding labels
  is = clumped n l

  own : ℕ → Bool
  own i = eqb (get_or labels i 0) i

  lows : List ℕ
  lows = keep own (up_to n)

  lows_are : lowest_atoms labels ≡ lows
  unfolding lowest_atoms lows own
  lows_are = ap (λ (k : ℕ). keep (λ i. eqb (get_or labels i 0) i) (up_to k)) is.long

  low_of : (i : ℕ) → i ∈ lows → (i < n) × (get_or labels i 0 ≡ i)
  unfolding lows own
  low_of i m = let k = mem_keep own (up_to n) m in (mem_up_to n k.0, eqb-true (get_or labels i 0) i k.1)

  of_low : (i : ℕ) → i < n → get_or labels i 0 ≡ i → i ∈ lows
  unfolding lows own
  of_low i h e = keep_mem own (up_to_mem n h) (eq-eqb (get_or labels i 0) i e)

  -- a label is an atom of its own
  label_low : (j : ℕ) → j < n → get_or labels j 0 ∈ lows
  label_low j h =
      let k : get_or labels j 0 < n = omega (arith, is.lowest j j h none) in
      of_low (get_or labels j 0) k (sym (is.same j (get_or labels j 0) h k (is.reached j h)))

  -- the atoms of a label
  atoms_of : ℕ → List ℕ
  atoms_of i = keep (λ j. eqb (lowest_of l j) i) (up_to n)

  count_is : (i : ℕ) → length (atoms_of i) ≡ members_of labels i
  unfolding atoms_of members_of labels labels_of
  count_is i = sym (many_map (λ k. eqb k i) (lowest_of l) (up_to n) ∙ many_keep (λ j. eqb (lowest_of l j) i) (up_to n))

  exactly : (i : ℕ) → i ∈ lows → Exactly (λ j. (j < n) × Chain l i j) (atoms_of i)
  unfolding atoms_of labels
  exactly i m =
      let o = low_of i m in
      let numbers : Exactly (λ j. j < n) (up_to n) = record { sound = λ a k. mem_up_to n k; complete = λ a h. up_to_mem n h; once = rising_once (up_to n) (rising_up_to n) } in
      exactly_as (keep (λ j. eqb (lowest_of l j) i) (up_to n)) (exactly_keep (λ j. eqb (lowest_of l j) i) (up_to n) numbers)
      (λ j p. (p.0, is.chained i j o.0 p.0 (o.1 ∙ sym (label_at n l j p.0 ∙ eqb-true (lowest_of l j) i p.1))))
      (λ j p. (p.0, eq-eqb (lowest_of l j) i (sym (label_at n l j p.0) ∙ sym (is.same i j o.0 p.0 p.1) ∙ o.1)))

  rows_of : clump_rows labels ≡ map (λ i. (i, members_of labels i)) lows
  unfolding clump_rows
  rows_of = ap (λ (k : List ℕ). map (λ i. (i, members_of labels i)) k) lows_are

  row_of : (p : ℕ × ℕ) → p ∈ map (λ i. (i, members_of labels i)) lows → (p.0 ∈ lows) × (members_of labels p.0 ≡ p.1)
  row_of p m =
      let r = Memᴰ.of_map (λ i. (i, members_of labels i)) lows m in
      let e : r.0 ≡ p.0 = ap (λ (x : ℕ × ℕ). x.0) r.2 in
      (Memᴰ.cast (sym e) r.1, ap (members_of labels) (sym e) ∙ ap (λ (x : ℕ × ℕ). x.1) r.2)

  sum : added_up (map (members_of labels) lows) ≡ n
  sum =
      sum_sizes labels lows (rising_once lows (unfold lows in (rising_keep own (up_to n) (rising_up_to n))))
      (λ a m. let r = mem_get_d 0 labels m in Memᴰ.cast (sym r.2) (label_low r.0 (omega (arith, r.1, is.long))))
      ∙ is.long

  clumps_of : Clumps n l (map (λ i. (i, members_of labels i)) lows)
  clumps_of =
      record {
        rising = rw (first_of (members_of labels) lows) (rises lows (unfold lows in (rising_keep own (up_to n) (rising_up_to n))));
        lowest = λ p m. let o = low_of p.0 (row_of p m).0 in (o.0, λ j k. omega (arith, o.1, is.lowest p.0 j o.0 k));
        size = λ p m. let r = row_of p m in (atoms_of p.0, exactly p.0 r.0, count_is p.0 ∙ r.1);
        every = λ j h. ((get_or labels j 0, members_of labels (get_or labels j 0)), Memᴰ.map (λ i. (i, members_of labels i)) (label_low j h), is.reached j h);
        sum = ap added_up (second_of (members_of labels) lows) ∙ sum;
      }

  pub clumps_are : Clumps n l (clump_rows (labels_of n l))
  unfolding labels
  clumps_are = rw rows_of clumps_of

  -- four digits say a number of at most 1,024
  pub few_digits : n ≤ 1024 → (p : ℕ × ℕ) → p ∈ clump_rows (labels_of n l) → (p.0 < 65536) × (p.1 < 65536)
  unfolding labels atoms_of
  few_digits h p m =
      let r = row_of p (rw rows_of at m) in
      (omega (arith, (low_of p.0 r.0).0), omega (arith, r.1, count_is p.0, length_keep (λ j. eqb (lowest_of l j) p.0) (up_to n), length_up_to n))
