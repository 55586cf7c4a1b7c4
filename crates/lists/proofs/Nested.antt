-- Loops over numbers as one loop: two nested loops are one over the product; and where two loops or two tests agree. Assumes nothing.
use mathlib.Core.Path.{◌≡◌, refl, sym, ap, ap₂, ◌∙◌}
use mathlib.Core.Bool.{Bool, cond}
use mathlib.Core.List.Memᴰ
use mathlib.Core.List.{List, [], ◌∷◌, ◌++◌, append-nil}
use Prim.Native.Nat.{ℕ, zero, suc, ◌+◌, ◌*◌, ◌/◌, ◌%◌}
use native.Mathlib.Nat.{add-zero, zero-add, zero-mul, suc-mul, mul-add-div_right, mul-add-mod_self_right, mod-eq_of_lt, div-eq_of_lt}
use native.Mathlib.Omega.{arith}
use Rattle.lists.specs.Exact.{◌∈◌}
use Rattle.lists.specs.Lists.{numbers, up_to, each, keep}
use Rattle.lists.proofs.Exactness.{each_append, mem_up_to}

-- f and g agree on what is in the list
pub each_agree : {A B : Type 0} (f g : A → List B) (l : List A) → ((a : A) → a ∈ l → f a ≡ g a) → each f l ≡ each g l
unfolding each
each_agree f g [] h = refl
each_agree f g (a ∷ l) h = ap₂ ◌++◌ (h a (Memᴰ.head refl)) (each_agree f g l (λ b m. h b (Memᴰ.tail m)))

pub keep_agree : {A : Type 0} (p q : A → Bool) (l : List A) → ((a : A) → a ∈ l → p a ≡ q a) → keep p l ≡ keep q l
unfolding keep
keep_agree {A} p q [] h = refl
keep_agree {A} p q (a ∷ l) h =
    rw (h a (Memᴰ.head refl)) (ap (λ (t : List A). cond (q a) (a ∷ t) t) (keep_agree p q l (λ b m. h b (Memᴰ.tail m))))

pub numbers_append : (k m n : ℕ) → numbers k (m + n) ≡ numbers k m ++ numbers (k + m) n
unfolding numbers
numbers_append k zero n = let e : k + 0 ≡ k = omega arith in rw (zero-add n, e)
numbers_append k (suc m) n =
    let e : suc m + n ≡ suc (m + n) = omega arith in
    let f : k + suc m ≡ k + 1 + m = omega arith in
    rw (e, f) (ap (λ (t : List ℕ). k ∷ t) (numbers_append (k + 1) m n))

-- the loop's numbers, counted from 0
each_from : {B : Type 0} (f : ℕ → List B) (k n i : ℕ) → each f (numbers (k + i) n) ≡ each (λ j. f (k + j)) (numbers i n)
unfolding numbers each
each_from f k zero i = refl
each_from f k (suc n) i =
    let e : k + i + 1 ≡ k + (i + 1) = omega arith in
    rw e (ap (λ t. f (k + i) ++ t) (each_from f k n (i + 1)))

one : {B : Type 0} (f : ℕ → List B) (m : ℕ) → each f (numbers m 1) ≡ f m
unfolding each numbers
one f m = append-nil (f m)

-- a loop in two parts, and its last turn
pub each_parts : {B : Type 0} (f : ℕ → List B) (m n : ℕ) → each f (up_to (m + n)) ≡ each f (up_to m) ++ each f (numbers m n)
each_parts f m n = rw (numbers_append 0 m n, zero-add m) (each_append f (up_to m) (numbers m n))

pub each_last : {B : Type 0} (f : ℕ → List B) (m : ℕ) → each f (up_to (m + 1)) ≡ each f (up_to m) ++ f m
each_last f m = each_parts f m 1 ∙ ap (λ t. each f (up_to m) ++ t) (one f m)

module _ {B : Type 0} (f : ℕ → ℕ → List B) (n : ℕ) where
  row : (m : ℕ) → each (λ h. f (h / n) (h % n)) (numbers (m * n) n) ≡ each (f m) (up_to n)
  row m =
      ap (λ (k : ℕ). each (λ h. f (h / n) (h % n)) (numbers k n)) (sym (add-zero (m * n)))
      ∙ each_from (λ h. f (h / n) (h % n)) (m * n) n 0
      ∙ each_agree (λ j. f ((m * n + j) / n) ((m * n + j) % n)) (f m) (up_to n)
      (λ j l.
      let h = mem_up_to n l in
      ap₂ f (mul-add-div_right {m = n} (omega arith) m j ∙ ap (λ (t : ℕ). m + t) (div-eq_of_lt h) ∙ add-zero m) (mul-add-mod_self_right m n j ∙ mod-eq_of_lt h))

  -- m rows of n are m * n numbers
  pub loop_two : (m : ℕ) → each (λ h. f (h / n) (h % n)) (up_to (m * n)) ≡ each (λ i. each (f i) (up_to n)) (up_to m)
  loop_two zero = rw (zero-mul n) none
    where
      none : each (λ h. f (h / n) (h % n)) (up_to 0) ≡ each (λ i. each (f i) (up_to n)) (up_to 0)
      none = unfold each numbers in refl
  loop_two (suc m) =
      let e : suc m ≡ m + 1 = omega arith in
      ap (λ (k : ℕ). each (λ h. f (h / n) (h % n)) (up_to k)) (suc-mul m n)
      ∙ each_parts (λ h. f (h / n) (h % n)) (m * n) n
      ∙ ap₂ ◌++◌ (loop_two m) (row m)
      ∙ sym (ap (λ (k : ℕ). each (λ i. each (f i) (up_to n)) (up_to k)) e ∙ each_last (λ i. each (f i) (up_to n)) m)
