-- THEOREM. By the labels of a list of rows two atoms have the same label exactly when a chain joins them, and the label is the lowest atom that is
-- reached. Assumes nothing.
use Prim.Native.Nat.{ℕ, ◌≤◌, ◌<◌, min, max}
use mathlib.Core.Path.{◌≡◌, refl, sym, ap, subst, ◌∙◌}
use mathlib.Core.Logic.{◌⊎◌, ⊎_elim}
use mathlib.Core.List.Memᴰ
use mathlib.Core.List.{List, [], ◌∷◌, ◌++◌, foldl, append_assoc, append-nil}
use native.Mathlib.Omega.{arith}
use borrow.Author.Tests.{eq-eqb, ne_eqb}
use Rattle.lists.specs.Exact.{◌∈◌}
use Rattle.lists.proofs.Cases.{same_or, below_or}
use Rattle.clumps_label.specs.Label.{linked, lowest_of}
use Rattle.clumps_label.specs.Theorems.{Chain, none, on, back}

-- ---- chains go on, turn round, and stay with more rows
module _ (l : List (ℕ × ℕ)) where
  then : {a b z : ℕ} → Chain l a b → Chain l b z → Chain l a z
  then none d = d
  then (on m c) d = on m (then c d)
  then (back m c) d = back m (then c d)

  turned_on : {a b z : ℕ} → Chain l a b → Chain l a z → Chain l b z
  turned_on none d = d
  turned_on (on m c) d = turned_on c (back m d)
  turned_on (back m c) d = turned_on c (on m d)

  turned : {a b : ℕ} → Chain l a b → Chain l b a
  turned c = turned_on c none

  longer : (r : List (ℕ × ℕ)) {a b : ℕ} → Chain l a b → Chain (l ++ r) a b
  longer r none = none
  longer r (on m c) = on (Memᴰ.append_left r m) (longer r c)
  longer r (back m c) = back (Memᴰ.append_left r m) (longer r c)

-- ---- what labels are once the rows of l are read
record Read (f : ℕ → ℕ) (l : List (ℕ × ℕ)) : Type 0 where
  pub reaches : (i : ℕ) → Chain l i (f i)
  pub low : (i : ℕ) → f i ≤ i
  pub row : (a b : ℕ) → (a, b) ∈ l → f a ≡ f b

-- one row more
module _ (f : ℕ → ℕ) (l : List (ℕ × ℕ)) (a b : ℕ) (r : Read f l) where
  more : List (ℕ × ℕ)
  more = l ++ ((a, b) ∷ [])

  data Ways (i : ℕ) : Type 0 where
    hit : f i ≡ max (f a) (f b) → linked f (a, b) i ≡ min (f a) (f b) → Ways i
    miss : (f i ≡ max (f a) (f b) → ⊥) → linked f (a, b) i ≡ f i → Ways i

  ways : (i : ℕ) → Ways i
  unfolding linked
  ways i =
      ⊎_elim (λ (e : f i ≡ max (f a) (f b)). hit e (rw (eq-eqb (f i) (max (f a) (f b)) e)))
      (λ (n : f i ≡ max (f a) (f b) → ⊥). miss n (rw (ne_eqb (f i) (max (f a) (f b)) n))) (same_or (f i) (max (f a) (f b)))

  -- the two labels of the row reach each other by it
  across : Chain more (f a) (f b)
  unfolding more
  across =
      then more (turned more (longer l ((a, b) ∷ []) (r.reaches a)))
      (on (Memᴰ.append_right l (Memᴰ.head refl)) (longer l ((a, b) ∷ []) (r.reaches b)))

  down : Chain more (max (f a) (f b)) (min (f a) (f b))
  down =
      ⊎_elim
      (λ (h : f a < f b). let u : f b ≡ max (f a) (f b) = omega arith in let v : f a ≡ min (f a) (f b) = omega arith in
      subst (λ (x : ℕ). Chain more x (min (f a) (f b))) u (subst (λ (x : ℕ). Chain more (f b) x) v (turned more across)))
      (λ (h : f b ≤ f a). let u : f a ≡ max (f a) (f b) = omega arith in let v : f b ≡ min (f a) (f b) = omega arith in
      subst (λ (x : ℕ). Chain more x (min (f a) (f b))) u (subst (λ (x : ℕ). Chain more (f a) x) v across))
      (below_or (f a) (f b))

  reach_by : (i : ℕ) → Ways i → Chain more i (linked f (a, b) i)
  unfolding more
  reach_by i (hit e g) =
      then more (longer l ((a, b) ∷ []) (r.reaches i))
      (subst (λ (x : ℕ). Chain more x (linked f (a, b) i)) (sym e) (subst (λ (x : ℕ). Chain more (max (f a) (f b)) x) (sym g) down))
  reach_by i (miss n g) = subst (λ (x : ℕ). Chain more i x) (sym g) (longer l ((a, b) ∷ []) (r.reaches i))

  low_by : (i : ℕ) → Ways i → linked f (a, b) i ≤ i
  low_by i (hit e g) = omega (arith, r.low i)
  low_by i (miss n g) = omega (arith, r.low i)

  -- the row's own two
  left_by : Ways a → linked f (a, b) a ≡ min (f a) (f b)
  left_by (hit e g) = g
  left_by (miss n g) = g ∙ omega (arith, n)

  right_by : Ways b → linked f (a, b) b ≡ min (f a) (f b)
  right_by (hit e g) = g
  right_by (miss n g) = g ∙ omega (arith, n)

  alike : (i j : ℕ) → f i ≡ f j → linked f (a, b) i ≡ linked f (a, b) j
  unfolding linked
  alike i j e = rw e

  row_by : (x y : ℕ) → ◌∈◌ {A = ℕ × ℕ} (x, y) l ⊎ ◌∈◌ {A = ℕ × ℕ} (x, y) ((a, b) ∷ []) → linked f (a, b) x ≡ linked f (a, b) y
  row_by x y =
      ⊎_elim (λ (m : ◌∈◌ {A = ℕ × ℕ} (x, y) l). alike x y (r.row x y m))
      (λ (m : ◌∈◌ {A = ℕ × ℕ} (x, y) ((a, b) ∷ [])). let e = Memᴰ.eq_of_singleton m in
      ap (λ (p : ℕ × ℕ). linked f (a, b) p.0) e ∙ left_by (ways a) ∙ sym (right_by (ways b)) ∙ sym (ap (λ (p : ℕ × ℕ). linked f (a, b) p.1) e))

  read_on : Read (linked f (a, b)) (l ++ ((a, b) ∷ []))
  unfolding more
  read_on =
      record {
        reaches = λ i. reach_by i (ways i);
        low = λ i. low_by i (ways i);
        row = λ x y m. row_by x y (Memᴰ.append_cases l m);
      }

read_all : (f : ℕ → ℕ) (l rest : List (ℕ × ℕ)) → Read f l → Read (foldl linked f rest) (l ++ rest)
read_all f l [] r = subst (λ (x : List (ℕ × ℕ)). Read f x) (sym (append-nil l)) r
read_all f l (p ∷ rest) r =
    subst (λ (x : List (ℕ × ℕ)). Read (foldl linked (linked f p) rest) x) (append_assoc l (p ∷ []) rest)
    (read_all (linked f p) (l ++ (p ∷ [])) rest (read_on f l p.0 p.1 r))

module _ (l : List (ℕ × ℕ)) where
  read : Read (lowest_of l) l
  unfolding lowest_of
  read =
      read_all (λ i. i) [] l (record { reaches = λ i. none; low = λ i. omega arith; row = λ a b m. absurd (Memᴰ.not-nil m) })

  pub reached : (i : ℕ) → Chain l i (lowest_of l i)
  reached = read.reaches

  pub same_label : {i j : ℕ} → Chain l i j → lowest_of l i ≡ lowest_of l j
  same_label none = refl
  same_label (on {a} {b} m c) = read.row a b m ∙ same_label c
  same_label (back {a} {b} m c) = sym (read.row b a m) ∙ same_label c

  pub lowest : (i j : ℕ) → Chain l i j → lowest_of l i ≤ j
  lowest i j c = omega (arith, same_label c, read.low j)

  pub chained : (i j : ℕ) → lowest_of l i ≡ lowest_of l j → Chain l i j
  chained i j e = then l (subst (λ (x : ℕ). Chain l i x) e (reached i)) (turned l (reached j))
