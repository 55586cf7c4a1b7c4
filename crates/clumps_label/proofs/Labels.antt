-- `label` by its cases, and what an answered call says of chains. Assumes nothing.
use Rattle.std.specs.Prelude.{Err, Ok, Result}
use Prim.Native.Nat.{ℕ, ◌%◌, ◌≤◌, ◌<◌}
use mathlib.Core.Path.{◌≡◌, sym, ap, subst, ◌∙◌}
use mathlib.Core.Bool.{Bool, true, false, not}
use mathlib.Core.List.{List, map, foldl}
use native.Mathlib.Omega.{arith}
use lib.ListN.{length, get_or, length-map, get_or-map}
use lib.Dec.{eqb}
use borrow.Author.Tests.{lt-ltb, le-ltb, eqb-true, not-false}
use Rattle.answer.specs.Seen.{answered, refused_by, seen}
use Rattle.answer.specs.declared.Refusal.{Refusal}
use Rattle.answer.specs.declared.Refusal.TheVariants.{Lengths, TooMany, NotThere}
use Rattle.lists.specs.Exact.{◌∈◌}
use Rattle.lists.specs.Lists.{rows, up_to, how_many}
use Rattle.lists.proofs.Cases.{impossible, or_neither}
use Rattle.lists.proofs.Exactness.{length_up_to, numbers_at, mem_up_to, many_keep}
use Rattle.lists.proofs.Nested.{keep_agree}
use Rattle.lists.proofs.Walks.{any_default}
use Rattle.ranges.specs.Rows.{absent_of}
use Rattle.clumps_label.specs.Label.{linked, lowest_of, labels_of, clumps_of, Outcome, lengths_off, label_asked, label_after, label_of, LabelSays}
use Rattle.clumps_label.specs.Theorems.{Clumped, Labelled, LabelClumps}
use Rattle.clumps_label.specs.Steps.{Forest, Moved, Settled}
use Rattle.clumps_label.proofs.Chains as chains
use Rattle.clumps_label.proofs.Trees.{planted, all_settled}

-- ---- the cases
module _ (n : ℕ) (pairs labels : List ℕ) where
  by_asked : (d : Result (Unit {0}) Refusal) → label_asked n pairs labels ≡ d → label_after n (rows pairs) labels d ≡ label_of n pairs labels
  unfolding label_of
  by_asked d e = ap (label_after n (rows pairs) labels) (sym e)

  refused_by_lem : (x : Refusal) → label_asked n pairs labels ≡ Err x → record { shown = refused_by x; labels = labels } ≡ label_of n pairs labels
  unfolding label_after
  refused_by_lem x e = by_asked (Err x) e

  pub off : lengths_off n pairs labels ≡ true → record { shown = refused_by Lengths; labels = labels } ≡ label_of n pairs labels
  unfolding label_asked
  off e = refused_by_lem Lengths (simp e)

  module _ (e : lengths_off n pairs labels ≡ false) where
    pub as_many : length labels ≡ n
    unfolding lengths_off
    as_many = eqb-true (length labels) n (not-false (eqb (length labels) n) (or_neither (not (eqb (length pairs % 2) 0)) (not (eqb (length labels) n)) e).1)

    pub too_many : 16384 < n → record { shown = refused_by (TooMany n); labels = labels } ≡ label_of n pairs labels
    unfolding label_asked
    too_many h = refused_by_lem (TooMany n) (simp (e, lt-ltb 16384 n h))

    pub not_there : n ≤ 16384 → (k : ℕ) → k ≡ absent_of n (rows pairs) → k < length (rows pairs) → record { shown = refused_by (NotThere k); labels = labels } ≡ label_of n pairs labels
    unfolding label_asked
    not_there h k a b =
        let g : absent_of n (rows pairs) < length (rows pairs) = omega (arith, a) in
        rw a (refused_by_lem (NotThere (absent_of n (rows pairs))) (simp (e, le-ltb 16384 n h, lt-ltb (absent_of n (rows pairs)) (length (rows pairs)) g)))

    pub labels_are : n ≤ 16384 → length (rows pairs) ≤ absent_of n (rows pairs) → record { shown = answered (clumps_of n (rows pairs)); labels = labels_of n (rows pairs) } ≡ label_of n pairs labels
    unfolding label_asked label_after
    labels_are h a = by_asked (Ok tt) (simp (e, le-ltb 16384 n h, le-ltb (absent_of n (rows pairs)) (length (rows pairs)) a))

-- the three passes, one after the other
module _ (n : ℕ) (l : List (ℕ × ℕ)) (q : List ℕ) (count : ℕ) (q' : List ℕ) (m : Moved (λ f. foldl linked f l) (up_to n) q) (s : Settled q (length q) count q') where
  long : length q ≡ n
  long = m.long ∙ length_up_to n

  tree : Forest (lowest_of l) q
  unfolding lowest_of
  tree = m.forest (λ i. i) (planted n).1

  pub passed : (count ≡ clumps_of n l) × (q' ≡ labels_of n l)
  unfolding clumps_of labels_of
  passed = (
    s.roots (lowest_of l) tree ∙ ap (λ (k : ℕ). how_many (λ j. eqb (lowest_of l j) j) (up_to k)) long,
    all_settled (lowest_of l) q count q' s tree ∙ ap (λ (k : ℕ). map (lowest_of l) (up_to k)) long,
  )

-- ---- the same as the code has it: n labels planted
pub all_passed : (n : ℕ) (l : List (ℕ × ℕ)) (planted q : List ℕ) (count : ℕ) (q' : List ℕ) → planted ≡ up_to n → Moved (λ f. foldl linked f l) planted q → Settled q (length q) count q' → (count ≡ clumps_of n l) × (q' ≡ labels_of n l)
all_passed n l p q count q' e m s = passed n l q count q' (subst (λ (x : List ℕ). Moved (λ f. foldl linked f l) x q) e m) s

-- ---- what an answer says of chains
pub label_at : (n : ℕ) (l : List (ℕ × ℕ)) (i : ℕ) → i < n → get_or (labels_of n l) i 0 ≡ lowest_of l i
unfolding labels_of
label_at n l i h =
    any_default (map (lowest_of l) (up_to n)) i 0 (lowest_of l 0) (omega (arith, length-map (up_to n) (lowest_of l), length_up_to n))
    ∙ get_or-map (lowest_of l) (up_to n) i 0 ∙ ap (lowest_of l) (numbers_at 0 n i h ∙ omega arith)

pub clumped : (n : ℕ) (l : List (ℕ × ℕ)) → Clumped n l (labels_of n l)
clumped n l =
    record {
      long = unfold labels_of in (length-map (up_to n) (lowest_of l) ∙ length_up_to n);
      reached = λ i h. rw (label_at n l i h) (chains.reached l i);
      lowest = λ i j h c. omega (arith, label_at n l i h, chains.lowest l i j c);
      chained = λ i j h k e. chains.chained l i j (sym (label_at n l i h) ∙ e ∙ label_at n l j k);
      same = λ i j h k c. label_at n l i h ∙ chains.same_label l c ∙ sym (label_at n l j k);
    }

many_agree : (p q : ℕ → Bool) (l : List ℕ) → ((a : ℕ) → a ∈ l → p a ≡ q a) → how_many p l ≡ how_many q l
many_agree p q l h = many_keep p l ∙ ap length (keep_agree p q l h) ∙ sym (many_keep q l)

pub labelled : (n : ℕ) (l : List (ℕ × ℕ)) → Labelled n l (clumps_of n l) (labels_of n l)
unfolding clumps_of
labelled n l =
    record {
      clumped = clumped n l;
      many =
          many_agree (λ i. eqb (lowest_of l i) i) (λ i. eqb (get_or (labels_of n l) i 0) i) (up_to n)
          (λ i m. ap (λ (k : ℕ). eqb k i) (sym (label_at n l i (mem_up_to n m))));
    }

clumps_by : (n : ℕ) (l : List (ℕ × ℕ)) (labels : List ℕ) (d : Result (Unit {0}) Refusal) (r : Result ℕ Refusal) (labels' : List ℕ) → record { shown = seen r; labels = labels' } ≡ label_after n l labels d → (k : ℕ) → seen r ≡ answered k → Labelled n l k labels'
unfolding label_after
clumps_by n l labels (Err x) r labels' says k a =
    let h : answered k ≡ refused_by x = sym a ∙ ap (λ (o : Outcome). o.shown) says in impossible (cc)
clumps_by n l labels (Ok tt) r labels' says k a =
    let h : answered k ≡ answered (clumps_of n l) = sym a ∙ ap (λ (o : Outcome). o.shown) says in
    let e : k ≡ clumps_of n l = cc in
    rw (e, ap (λ (o : Outcome). o.labels) says) (labelled n l)

pub label_clumps : (count : ℕ) (pairs labels : List ℕ) (r : Result ℕ Refusal) (labels' : List ℕ) → LabelSays count pairs labels r labels' → LabelClumps count pairs r labels'
unfolding label_of
label_clumps count pairs labels r labels' says = clumps_by count (rows pairs) labels (label_asked count pairs labels) r labels' says
