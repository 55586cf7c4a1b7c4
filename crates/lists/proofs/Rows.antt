-- A table of two numbers a row, and a table of three: its rows, and a row stored in it. Assumes nothing.
use mathlib.Core.Path.{◌≡◌, refl, ap, ◌∙◌}
use mathlib.Core.List.{List, [], ◌∷◌, ◌++◌, append_assoc}
use Prim.Native.Nat.{ℕ, zero, suc, ◌+◌, ◌*◌, ◌/◌, ◌<◌}
use native.Mathlib.Omega.{arith}
use lib.ListN.{length, get_or, set, take, drop, length-append, length-set}
use lib.Seq.{set_at, get_or-set_same, get_or-set_other}
use Rattle.lists.specs.Lists.{flat, rows}

pub rows_flat : (l : List (ℕ × ℕ)) → rows (flat l) ≡ l
unfolding rows flat
rows_flat [] = refl
rows_flat (p ∷ l) = ap (λ (t : List (ℕ × ℕ)). p ∷ t) (rows_flat l)

pub flat_append : (a b : List (ℕ × ℕ)) → flat (a ++ b) ≡ flat a ++ flat b
unfolding flat
flat_append [] b = refl
flat_append (p ∷ a) b = ap (λ (t : List ℕ). p.0 ∷ p.1 ∷ t) (flat_append a b)

pub rows_append : (a : List (ℕ × ℕ)) (l : List ℕ) → rows (flat a ++ l) ≡ a ++ rows l
unfolding rows flat
rows_append [] l = refl
rows_append (p ∷ a) l = ap (λ (t : List (ℕ × ℕ)). p ∷ t) (rows_append a l)

pub length_flat : (a : List (ℕ × ℕ)) → length (flat a) ≡ 2 * length a
unfolding flat
length_flat [] = refl
length_flat (p ∷ a) = omega (arith, length_flat a)

pub length_rows : (l : List ℕ) → length (rows l) ≡ length l / 2
unfolding rows
length_rows [] = refl
length_rows (a ∷ []) = refl
length_rows (a ∷ b ∷ l) = omega (arith, length_rows l)

-- row k
pub rows_at : (l : List ℕ) (k : ℕ) → k < length l / 2 → get_or (rows l) k (0, 0) ≡ (get_or l (2 * k) 0, get_or l (2 * k + 1) 0)
unfolding rows
rows_at [] k h = absurd (omega arith)
rows_at (a ∷ []) k h = absurd (omega arith)
rows_at (a ∷ b ∷ l) zero h = refl
rows_at (a ∷ b ∷ l) (suc k) h =
    let e : 2 * suc k ≡ suc (suc (2 * k)) = omega arith in
    let f : 2 * suc k + 1 ≡ suc (suc (2 * k + 1)) = omega arith in
    rw (f, e) (rows_at l k (omega arith))

-- the first k rows, and the later ones
pub take_rows : (l : List ℕ) (k : ℕ) → rows (take (2 * k) l) ≡ take k (rows l)
unfolding rows
take_rows l zero = refl
take_rows [] (suc k) = let e : 2 * suc k ≡ suc (suc (2 * k)) = omega arith in rw e
take_rows (a ∷ []) (suc k) = let e : 2 * suc k ≡ suc (suc (2 * k)) = omega arith in rw e
take_rows (a ∷ b ∷ l) (suc k) =
    let e : 2 * suc k ≡ suc (suc (2 * k)) = omega arith in rw e (ap (λ (t : List (ℕ × ℕ)). (a, b) ∷ t) (take_rows l k))

pub drop_rows : (l : List ℕ) (k : ℕ) → rows (drop (2 * k) l) ≡ drop k (rows l)
unfolding rows
drop_rows l zero = refl
drop_rows [] (suc k) = let e : 2 * suc k ≡ suc (suc (2 * k)) = omega arith in rw e
drop_rows (a ∷ []) (suc k) = let e : 2 * suc k ≡ suc (suc (2 * k)) = omega arith in rw e
drop_rows (a ∷ b ∷ l) (suc k) = let e : 2 * suc k ≡ suc (suc (2 * k)) = omega arith in rw e (drop_rows l k)

-- the numbers of the rows: all but half a row
pub flat_rows : (l : List ℕ) → flat (rows l) ≡ take (2 * (length l / 2)) l
unfolding rows flat
flat_rows [] = refl
flat_rows (a ∷ []) = refl
flat_rows (a ∷ b ∷ l) =
    let e : 2 * (suc (suc (length l)) / 2) ≡ suc (suc (2 * (length l / 2))) = omega arith in
    rw e (ap (λ (t : List ℕ). a ∷ b ∷ t) (flat_rows l))

-- two numbers stored side by side at a seam
pub two_at : {A : Type 0} (front rest : List A) (a b x y : A) (m : ℕ) → length front ≡ m → set (set (front ++ a ∷ b ∷ rest) m x) (m + 1) y ≡ front ++ x ∷ y ∷ rest
two_at front rest a b x y m e =
    rw (
      set_at front a (b ∷ rest) x m e,
      ← append_assoc front (x ∷ []) (b ∷ rest),
      set_at (front ++ (x ∷ [])) b rest y (m + 1) (length-append front (x ∷ []) ∙ omega arith),
      append_assoc,
    )

-- row k stored, in a table of two numbers a row
pub set_row : (l : List ℕ) (k x y : ℕ) → rows (set (set l (2 * k) x) (2 * k + 1) y) ≡ set (rows l) k (x, y)
unfolding rows
set_row [] zero x y = refl
set_row [] (suc k) x y = refl
set_row (a ∷ []) zero x y = refl
set_row (a ∷ []) (suc k) x y =
    let e : 2 * suc k ≡ suc (suc (2 * k)) = omega arith in
    let f : 2 * suc k + 1 ≡ suc (suc (2 * k + 1)) = omega arith in
    rw (f, e) refl
set_row (a ∷ b ∷ l) zero x y = refl
set_row (a ∷ b ∷ l) (suc k) x y =
    let e : 2 * suc k ≡ suc (suc (2 * k)) = omega arith in
    let f : 2 * suc k + 1 ≡ suc (suc (2 * k + 1)) = omega arith in
    rw (f, e) (ap (λ (t : List (ℕ × ℕ)). (a, b) ∷ t) (set_row l k x y))

-- ---- three numbers a row
abbrev pub set_three : {A : Type 0} → List A → ℕ → A → A → A → List A
set_three l k x y z = set (set (set l (3 * k) x) (3 * k + 1) y) (3 * k + 2) z

module _ {A : Type 0} (d : A) (l : List A) (k : ℕ) (x y z : A) where
  pub three_length : length (set_three l k x y z) ≡ length l
  three_length = simp length-set

  -- the last store, and the second, elsewhere
  abbrev one : List A
  one = set l (3 * k) x

  abbrev two : List A
  two = set one (3 * k + 1) y

  pub three_other : (j : ℕ) → (j ≡ 3 * k → ⊥) → (j ≡ 3 * k + 1 → ⊥) → (j ≡ 3 * k + 2 → ⊥) → get_or (set_three l k x y z) j d ≡ get_or l j d
  three_other j a b c = get_or-set_other two (3 * k + 2) j z d c ∙ get_or-set_other one (3 * k + 1) j y d b ∙ get_or-set_other l (3 * k) j x d a

  module _ (h : 3 * k + 2 < length l) where
    pub three_first : get_or (set_three l k x y z) (3 * k) d ≡ x
    three_first =
        get_or-set_other two (3 * k + 2) (3 * k) z d (λ e. omega arith)
        ∙ get_or-set_other one (3 * k + 1) (3 * k) y d (λ e. omega arith)
        ∙ get_or-set_same l (3 * k) x d (omega arith)

    pub three_second : get_or (set_three l k x y z) (3 * k + 1) d ≡ y
    three_second =
        get_or-set_other two (3 * k + 2) (3 * k + 1) z d (λ e. omega arith)
        ∙ get_or-set_same one (3 * k + 1) y d (simp length-set (omega arith))

    pub three_third : get_or (set_three l k x y z) (3 * k + 2) d ≡ z
    three_third = get_or-set_same two (3 * k + 2) z d (simp length-set h)
