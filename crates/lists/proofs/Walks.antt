-- A walk through a list from the front, at place i: what is left, `drop i l`, decides. One law a step, over the test. Assumes nothing.
use mathlib.Core.Path.{◌≡◌, refl}
use mathlib.Core.Bool.{Bool, true, false}
use mathlib.Core.List.{List, [], ◌∷◌, ◌++◌, foldl}
use Prim.Native.Nat.{ℕ, zero, suc, ◌+◌, ◌-◌, ◌<◌, ◌≤◌}
use native.Mathlib.Nat.{not-suc-le-zero}
use native.Mathlib.Numerals.{add-one}
use native.Mathlib.Omega.{arith}
use lib.ListN.{length, get_or, take, drop, drop_of_length-le, length-drop}
use lib.Seq.{drop-cons, take_all}
use Rattle.lists.specs.Lists.{numbers, each, how_many, every, some, first_where, ordered, with_each, inside, across}
use Rattle.lists.proofs.Cases.{and_both, both_and, or_left, or_right}

-- what is left at i, and at the end
pub drop_next : {A : Type 0} (d : A) (l : List A) (i : ℕ) → i < length l → drop i l ≡ get_or l i d ∷ drop (i + 1) l
drop_next d l i h = rw (add-one, drop-cons l i d)

pub drop_past : {A : Type 0} (l : List A) (i : ℕ) → length l ≤ i → drop i l ≡ []
drop_past l i h = drop_of_length-le l h

-- the rest of a slice, as a part that is lent has it
pub rest_of : {A : Type 0} (l : List A) (k : ℕ) → take (length l - k) (drop k l) ≡ drop k l
rest_of l k = take_all (length l - k) (drop k l) (omega (arith, length-drop k l))

-- a read with another default
pub any_default : {A : Type 0} (l : List A) (k : ℕ) (a b : A) → k < length l → get_or l k a ≡ get_or l k b
any_default [] k a b h = absurd (not-suc-le-zero h)
any_default (x ∷ l) zero a b h = refl
any_default (x ∷ l) (suc k) a b h = any_default l k a b (omega arith)

module _ {A : Type 0} (d : A) (l : List A) (i : ℕ) where
  -- a fold
  pub fold_next : {B : Type 0} (f : B → A → B) (s : B) → i < length l → foldl f s (drop i l) ≡ foldl f (f s (get_or l i d)) (drop (i + 1) l)
  fold_next f s h = rw (drop_next d l i h)

  pub fold_past : {B : Type 0} (f : B → A → B) (s : B) → length l ≤ i → foldl f s (drop i l) ≡ s
  fold_past f s h = rw (drop_past l i h)

  module _ (p : A → Bool) where
    pub every_passes : i < length l → p (get_or l i d) ≡ true → every p (drop i l) ≡ every p (drop (i + 1) l)
    unfolding every
    every_passes h t = rw (drop_next d l i h, t)

    pub every_fails : i < length l → p (get_or l i d) ≡ false → every p (drop i l) ≡ false
    unfolding every
    every_fails h t = rw (drop_next d l i h, t)

    pub every_past : length l ≤ i → every p (drop i l) ≡ true
    unfolding every
    every_past h = rw (drop_past l i h)

    pub first_passes : i < length l → p (get_or l i d) ≡ true → first_where p (drop i l) ≡ 0
    unfolding first_where
    first_passes h t = rw (drop_next d l i h, t)

    pub first_fails : i < length l → p (get_or l i d) ≡ false → first_where p (drop i l) ≡ suc (first_where p (drop (i + 1) l))
    unfolding first_where
    first_fails h t = rw (drop_next d l i h, t)

    pub first_past : length l ≤ i → first_where p (drop i l) ≡ 0
    unfolding first_where
    first_past h = rw (drop_past l i h)

    pub many_past : length l ≤ i → how_many p (drop i l) ≡ 0
    unfolding how_many
    many_past h = rw (drop_past l i h)

-- ---- what a whole test says of a place
module _ {A : Type 0} (d : A) (p : A → Bool) where
  pub every_at : (l : List A) → every p l ≡ true → (k : ℕ) → k < length l → p (get_or l k d) ≡ true
  unfolding every
  every_at [] h k lt = absurd (not-suc-le-zero lt)
  every_at (a ∷ l) h zero lt = (and_both (p a) (every p l) h).0
  every_at (a ∷ l) h (suc k) lt = every_at l (and_both (p a) (every p l) h).1 k (omega arith)

  pub at_every : (l : List A) → ((k : ℕ) → k < length l → p (get_or l k d) ≡ true) → every p l ≡ true
  unfolding every
  at_every [] h = refl
  at_every (a ∷ l) h = both_and (p a) (every p l) (h 0 (omega arith)) (at_every l (λ k lt. h (suc k) (omega arith)))

  pub some_at : (l : List A) (k : ℕ) → k < length l → p (get_or l k d) ≡ true → some p l ≡ true
  unfolding some
  some_at [] k lt h = absurd (not-suc-le-zero lt)
  some_at (a ∷ l) zero lt h = or_left (p a) (some p l) h
  some_at (a ∷ l) (suc k) lt h = or_right (p a) (some p l) (some_at l k (omega arith) h)

  pub none_at : (l : List A) → ((k : ℕ) → k < length l → p (get_or l k d) ≡ false) → some p l ≡ false
  unfolding some
  none_at [] h = refl
  none_at (a ∷ l) h = rw (h 0 (omega arith)) (none_at l (λ k lt. h (suc k) (omega arith)))

-- ---- what is left of the numbers below n at k
pub numbers_next : (n k : ℕ) → k < n → numbers k (n - k) ≡ k ∷ numbers (k + 1) (n - (k + 1))
unfolding numbers
numbers_next n k h = let q : n - k ≡ suc (n - (k + 1)) = omega arith in rw q

pub numbers_end : (n k : ℕ) → n ≤ k → numbers k (n - k) ≡ []
unfolding numbers
numbers_end n k h = let q : n - k ≡ 0 = omega arith in rw q

pub each_next : {B : Type 0} (f : ℕ → List B) (n k : ℕ) → k < n → each f (numbers k (n - k)) ≡ f k ++ each f (numbers (k + 1) (n - (k + 1)))
unfolding each
each_next f n k h = rw (numbers_next n k h)

pub each_end : {B : Type 0} (f : ℕ → List B) (n k : ℕ) → n ≤ k → each f (numbers k (n - k)) ≡ []
unfolding each
each_end f n k h = rw (numbers_end n k h)

-- ---- what is left of the pairs of a list, or of two, at k
module _ (home : List ℕ) (k : ℕ) where
  pub with_next : (i : ℕ) → k < length home → with_each i (drop k home) ≡ ordered i (get_or home k 0) ∷ with_each i (drop (k + 1) home)
  unfolding with_each
  with_next i h = rw (drop_next 0 home k h)

  pub with_end : (i : ℕ) → length home ≤ k → with_each i (drop k home) ≡ []
  unfolding with_each
  with_end i h = rw (drop_past home k h)

  pub across_next : (other : List ℕ) → k < length home → across (drop k home) other ≡ with_each (get_or home k 0) other ++ across (drop (k + 1) home) other
  unfolding across each
  across_next other h = rw (drop_next 0 home k h)

  pub across_end : (other : List ℕ) → length home ≤ k → across (drop k home) other ≡ []
  unfolding across each
  across_end other h = rw (drop_past home k h)

  pub inside_next : k < length home → inside (drop k home) ≡ with_each (get_or home k 0) (drop (k + 1) home) ++ inside (drop (k + 1) home)
  unfolding inside
  inside_next h = rw (drop_next 0 home k h)

  pub inside_end : length home ≤ k → inside (drop k home) ≡ []
  unfolding inside
  inside_end h = rw (drop_past home k h)

-- the same of numbers: an atom with each later one, all pairs
pub later_next : (i n k : ℕ) → k < n → with_each i (numbers k (n - k)) ≡ ordered i k ∷ with_each i (numbers (k + 1) (n - (k + 1)))
unfolding with_each
later_next i n k h = rw (numbers_next n k h)

pub later_end : (i n k : ℕ) → n ≤ k → with_each i (numbers k (n - k)) ≡ []
unfolding with_each
later_end i n k h = rw (numbers_end n k h)

pub pairs_next : (n k : ℕ) → k < n → inside (numbers k (n - k)) ≡ with_each k (numbers (k + 1) (n - (k + 1))) ++ inside (numbers (k + 1) (n - (k + 1)))
unfolding inside
pairs_next n k h = rw (numbers_next n k h)

pub pairs_end : (n k : ℕ) → n ≤ k → inside (numbers k (n - k)) ≡ []
unfolding inside
pairs_end n k h = rw (numbers_end n k h)
