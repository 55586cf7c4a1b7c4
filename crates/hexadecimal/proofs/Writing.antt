-- Laws of writing: lengths, runs of stores one after the other, and stores past the end. Assumes nothing.
use Prim.Native.Nat.{ℕ, zero, suc, ◌+◌, ◌/◌, ◌%◌, ◌≤◌}
use mathlib.Core.Path.{◌≡◌, refl, sym, ap, ◌∙◌}
use mathlib.Core.List.{List, [], ◌∷◌, ◌++◌}
use native.Mathlib.Nat.{add-zero, add-suc, suc-add, le_of_suc-le-suc, not-suc-le-zero}
use native.Mathlib.Omega.{arith}
use lib.ListN.{length, set, length-append}
use lib.Seq.{sets}
use Rattle.hexadecimal.specs.Glyphs.{text2, text4, text8}

pub length2 : (n : ℕ) → length (text2 n) ≡ 2
unfolding text2
length2 n = refl

pub length4 : (n : ℕ) → length (text4 n) ≡ 4
unfolding text4
length4 n = length-append (text2 (n / 256)) (text2 (n % 256)) ∙ simp length2

pub length8 : (n : ℕ) → length (text8 n) ≡ 8
unfolding text8
length8 n = length-append (text4 (n / 65536)) (text4 (n % 65536)) ∙ simp length4

-- ---- stores past the end

pub set_past : (l : List ℕ) (i v : ℕ) → length l ≤ i → l ≡ set l i v
set_past [] i v h = refl
set_past (x ∷ xs) zero v h = absurd (not-suc-le-zero h)
set_past (x ∷ xs) (suc i) v h = ap (λ (t : List ℕ). x ∷ t) (set_past xs i v (le_of_suc-le-suc h))

pub sets_past : (vs l : List ℕ) (i : ℕ) → length l ≤ i → l ≡ sets l i vs
sets_past [] l i h = refl
sets_past (v ∷ vs) l i h =
    sets_past vs l (suc i) (omega arith) ∙ ap (λ (t : List ℕ). sets t (suc i) vs) (set_past l i v h)

-- ---- one run of stores after the other

pub sets_append : (xs ys l : List ℕ) (i : ℕ) → sets (sets l i xs) (i + length xs) ys ≡ sets l i (xs ++ ys)
sets_append [] ys l i = rw (add-zero i)
sets_append (x ∷ xs) ys l i = ap (λ (k : ℕ). sets (sets (set l i x) (suc i) xs) k ys) (add-suc i (length xs) ∙ sym (suc-add i (length xs))) ∙ sets_append xs ys (set l i x) (suc i)

-- two writes, one after the other, of known lengths
pub put_put : (k : ℕ) (xs ys l m r : List ℕ) (i : ℕ) → length xs ≡ k → m ≡ sets l i xs → r ≡ sets m (i + k) ys → r ≡ sets l i (xs ++ ys)
put_put k xs ys l m r i e p q = q ∙ ap (λ (d : List ℕ). sets d (i + k) ys) p ∙ ap (λ (j : ℕ). sets (sets l i xs) (i + j) ys) (sym e) ∙ sets_append xs ys l i
