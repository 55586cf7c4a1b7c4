-- The lines of clumps, one after the other; how long they are; that `label` refuses no list of a sheet. Assumes nothing.
use Rattle.std.specs.Prelude.{Ok, Result}
use Rattle.answer.specs.declared.Refusal.{Refusal}
use Prim.Native.Nat.{ℕ, suc, ◌+◌, ◌*◌, ◌%◌, ◌≤◌, ◌<◌}
use mathlib.Core.Path.{◌≡◌, refl, sym, ap, ◌∙◌}
use mathlib.Core.Bool.{Bool, true, false, cond}
use mathlib.Core.List.{List, [], ◌∷◌, ◌++◌, map}
use native.Mathlib.Omega.{arith}
use lib.ListN.{length, get_or, take, drop, length-append, length-map}
use lib.Seq.{sets, length-take-le}
use lib.Dec.{eqb}
use borrow.Author.Tests.{eq-eqb, ne_eqb, lt-ltb, le-ltb}
use Rattle.lists.specs.Lists.{rows, up_to, each, keep, how_many}
use Rattle.lists.proofs.Cases.{by_test}
use Rattle.lists.proofs.Exactness.{length_keep, length_up_to}
use Rattle.lists.proofs.First.{first_past}
use Rattle.lists.proofs.Nested.{each_last}
use Rattle.lists.proofs.Walks.{drop_next}
use Rattle.hexadecimal.proofs.Writing.{length2, length4, put_put}
use Rattle.ranges.specs.Rows.{is_absent, absent_of}
use Rattle.clumps_label.specs.Label.{labels_of, lengths_off, label_asked, label_after, label_of, LabelSays, Outcome}
use Rattle.clumps_answer.specs.Clumps.{clump_line, members_of, lowest_atoms, clump_rows, clump_lines}
use Rattle.clumps_answer.specs.Steps.{clump_line_at, RowsAmong}

-- ---- one label more
pub member_turn : (labels : List ℕ) (low i n r : ℕ) → i < length labels → r ≡ cond (eqb (get_or labels i 0) low) 1 0 → n + how_many (λ l. eqb l low) (drop i labels) ≡ members_of labels low → (n + r) + how_many (λ l. eqb l low) (drop (i + 1) labels) ≡ members_of labels low
unfolding how_many
member_turn labels low i n r h e s =
    by_test
    (λ b. r ≡ cond b 1 0 → n + cond b (suc (how_many (λ l. eqb l low) (drop (i + 1) labels))) (how_many (λ l. eqb l low) (drop (i + 1) labels)) ≡ members_of labels low → (n + r) + how_many (λ l. eqb l low) (drop (i + 1) labels) ≡ members_of labels low)
    (eqb (get_or labels i 0) low) (λ _ p q. omega arith) (λ _ p q. omega arith) e (rw (drop_next 0 labels i h) at s)

-- ---- lines
pub length_clump : (a b : ℕ) → length (clump_line a b) ≡ 11
unfolding clump_line
length_clump a b = simp (length-append, length2, length4)

pub own_line : (labels : List ℕ) (i : ℕ) → get_or labels i 0 ≡ i → clump_line_at labels i ≡ clump_line i (members_of labels i)
unfolding clump_line_at
own_line labels i e = rw (eq-eqb (get_or labels i 0) i e)

pub no_line : (labels : List ℕ) (i : ℕ) → (get_or labels i 0 ≡ i → ⊥) → clump_line_at labels i ≡ []
unfolding clump_line_at
no_line labels i n = rw (ne_eqb (get_or labels i 0) i n)

pub length_line : (labels : List ℕ) (i : ℕ) → length (clump_line_at labels i) ≤ 11
unfolding clump_line_at
length_line labels i =
    by_test (λ b. length (cond b (clump_line i (members_of labels i)) []) ≤ 11) (eqb (get_or labels i 0) i)
    (λ _. omega (arith, length_clump i (members_of labels i))) (λ _. omega arith)

-- the first i atoms' lines
abbrev pub lines_to : List ℕ → ℕ → List ℕ
lines_to labels i = each (clump_line_at labels) (up_to i)

pub line_turn : (labels l m r : List ℕ) (i at next : ℕ) → at ≡ length (lines_to labels i) → m ≡ sets l 0 (lines_to labels i) → next ≡ at + length (clump_line_at labels i) → r ≡ sets m at (clump_line_at labels i)
    → (next ≡ length (lines_to labels (i + 1))) × (r ≡ sets l 0 (lines_to labels (i + 1)))
line_turn labels l m r i at next a p e q =
    let more = each_last (clump_line_at labels) i in
    let r' : r ≡ sets m (0 + at) (clump_line_at labels i) = q ∙ ap (λ (k : ℕ). sets m k (clump_line_at labels i)) (omega arith) in (
      e ∙ omega (arith, a, length-append (lines_to labels i) (clump_line_at labels i)) ∙ ap length (sym more),
      put_put at (lines_to labels i) (clump_line_at labels i) l m r 0 (sym a) p r' ∙ ap (λ (x : List ℕ). sets l 0 x) (sym more),
    )

module _ (q : ℕ → Bool) (h : ℕ → ℕ × ℕ) (g : ℕ × ℕ → List ℕ) where
  kept_lines : (l : List ℕ) → each (λ i. cond (q i) (g (h i)) []) l ≡ each g (map h (keep q l))
  unfolding each keep
  kept_lines [] = refl
  kept_lines (a ∷ l) =
      by_test (λ b. cond b (g (h a)) [] ++ each (λ i. cond (q i) (g (h i)) []) l ≡ each g (map h (cond b (a ∷ keep q l) (keep q l)))) (q a)
      (λ _. ap (λ (x : List ℕ). g (h a) ++ x) (kept_lines l)) (λ _. kept_lines l)

pub lines_are : (labels : List ℕ) → lines_to labels (length labels) ≡ clump_lines (clump_rows labels)
unfolding clump_line_at clump_lines clump_rows lowest_atoms
lines_are labels =
    kept_lines (λ i. eqb (get_or labels i 0) i) (λ i. (i, members_of labels i)) (λ p. clump_line p.0 p.1) (up_to (length labels))

pub length_lines : (l : List (ℕ × ℕ)) → length (clump_lines l) ≡ 11 * length l
unfolding clump_lines each
length_lines [] = refl
length_lines (p ∷ l) =
    length-append (clump_line p.0 p.1) (each (λ q. clump_line q.0 q.1) l) ∙ omega (arith, length_lines l, length_clump p.0 p.1)

pub few_rows : (labels : List ℕ) → length (clump_rows labels) ≤ length labels
unfolding clump_rows lowest_atoms
few_rows labels =
    omega (arith, length-map {B = ℕ × ℕ} (keep (λ i. eqb (get_or labels i 0) i) (up_to (length labels))) (λ i. (i, members_of labels i)), length_keep (λ i. eqb (get_or labels i 0) i) (up_to (length labels)), length_up_to (length labels))

-- ---- `label` of a sheet's list
module _ (atoms count : ℕ) (pairs labels : List ℕ) (w : RowsAmong atoms count pairs) (as_many : length labels ≡ atoms) where
  abbrev part : List ℕ
  part = take (2 * count) pairs

  long : length part ≡ 2 * count
  long = length-take-le (2 * count) pairs w.room

  even : lengths_off atoms part labels ≡ false
  unfolding lengths_off
  even = simp (eq-eqb (length part % 2) 0 (omega (arith, long)), eq-eqb (length labels) atoms as_many)

  there : length (rows part) ≤ absent_of atoms (rows part)
  unfolding absent_of
  there =
      omega (
        arith,
        first_past (is_absent atoms) (rows part)
            (λ p m. let t = w.two p m in simp (lt-ltb p.0 atoms (omega (arith, t.0, t.1)), lt-ltb p.1 atoms t.1)),
      )

  asked : label_asked atoms part labels ≡ Ok tt
  unfolding label_asked
  asked =
      simp (even, le-ltb 16384 atoms (omega (arith, w.few)), le-ltb (absent_of atoms (rows part)) (length (rows part)) there)

  pub label_is : (r : Result ℕ Refusal) (labels' : List ℕ) → LabelSays atoms part labels r labels' → labels' ≡ labels_of atoms (rows part)
  unfolding label_of label_after
  label_is r labels' says = ap (λ (o : Outcome). o.labels) (says ∙ ap (label_after atoms (rows part) labels) asked)

pub one_at_most : (b : Bool) (r : ℕ) → r ≡ cond b 1 0 → r ≤ 1
one_at_most true r e = omega arith
one_at_most false r e = omega arith
