-- A loop over pairs under way: what is left gives what all gave from the start. Over the rows of a table, over the numbers below m. Assumes nothing.
use mathlib.Core.Path.{◌≡◌, refl, sym, ap, ◌∙◌}
use mathlib.Core.List.{List, foldl}
use Prim.Native.Nat.{ℕ, ◌+◌, ◌/◌, ◌<◌, ◌≤◌}
use native.Mathlib.Nat.{zero-add}
use native.Mathlib.Omega.{arith}
use lib.ListN.{length, get_or, drop}
use Rattle.lists.specs.Lists.{up_to, rows}
use Rattle.lists.proofs.Exactness.{numbers_at, length_up_to}
use Rattle.lists.proofs.Rows.{length_rows}
use Rattle.lists.proofs.Walks.{fold_next, fold_past}

-- at place k of the list l, with t so far, all gives r
pub record Left {A B : Type 0} (f : B → A → B) (l : List A) (k : ℕ) (t r : B) : Type 0 where
  pub same : foldl f t (drop k l) ≡ r

module _ {A B : Type 0} {f : B → A → B} where
  pub left_begin : (l : List A) (t : B) → Left f l 0 t (foldl f t l)
  left_begin l t = record { same = refl }

  left_turn : (d : A) (l : List A) {k : ℕ} {t t' r : B} → k < length l → t' ≡ f t (get_or l k d) → Left f l k t r → Left f l (k + 1) t' r
  left_turn d l {k} {t} h e i = record { same = ap (λ (x : B). foldl f x (drop (k + 1) l)) e ∙ sym (fold_next d l k f t h) ∙ i.same }

  left_end : (d : A) (l : List A) {k : ℕ} {t r : B} → length l ≤ k → Left f l k t r → t ≡ r
  left_end d l {k} {t} h i = sym (fold_past d l k f t h) ∙ i.same

-- ---- the rows of a table
module _ {B : Type 0} {f : B → ℕ × ℕ → B} (table : List ℕ) {k : ℕ} {t r : B} where
  pub rows_end : length table / 2 ≤ k → Left f (rows table) k t r → t ≡ r
  rows_end h l = left_end (0, 0) (rows table) (omega (arith, length_rows table)) l

-- ---- the numbers below m
module _ {B : Type 0} {f : B → ℕ → B} (m : ℕ) {k : ℕ} {t r : B} where
  pub numbers_turn : {t' : B} → k < m → Left f (up_to m) k t r → t' ≡ f t k → Left f (up_to m) (k + 1) t' r
  numbers_turn h l e = left_turn 0 (up_to m) (omega (arith, length_up_to m)) (e ∙ ap (f t) (sym (numbers_at 0 m k h ∙ zero-add k))) l

  pub numbers_over : m ≤ k → Left f (up_to m) k t r → t ≡ r
  numbers_over h l = left_end 0 (up_to m) (omega (arith, length_up_to m)) l
