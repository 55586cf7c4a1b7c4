-- Two exclusion tables that exclude the same pairs are the same rows. Assumes nothing.
use Prim.Native.Nat.{ℕ}
use mathlib.Core.Path.{◌≡◌, refl, sym, ap, ◌∙◌}
use mathlib.Core.Bool.{true, false, false≢true}
use mathlib.Core.List.{List, [], ◌∷◌}
use mathlib.Core.Logic.{◌⊎◌, inl, inr}
use lib.Dec.{ltb}
use Rattle.lists.specs.Lists.{some}
use Rattle.lists.proofs.Cases.{and_both, or_cases, true_or_false}
use Rattle.exclusions.specs.Table.{before, same_pair, leads, is_table, is_row}
use Rattle.exclusions.proofs.RowOrder.{pair_same, same_pair_lem, before_trans, before_other}
use Rattle.exclusions.proofs.Search.{tail_table}

by_cases : {A B C : Type 0} → A ⊎ B → (A → C) → (B → C) → C
by_cases (inl a) f g = f a
by_cases (inr b) f g = g b

first_leads : (p q : ℕ × ℕ) (l : List (ℕ × ℕ)) → is_table (p ∷ q ∷ l) ≡ true → before p q ≡ true
unfolding is_table leads
first_leads p q l h = (and_both (before p q) _ (and_both (ltb p.0 p.1) _ h).1).0

-- a row after the first comes after it
later : (x p : ℕ × ℕ) (l : List (ℕ × ℕ)) → is_table (p ∷ l) ≡ true → is_row x l ≡ true → before p x ≡ true
unfolding is_row some
later x p [] t h = absurd (false≢true h)
later x p (q ∷ l) t h =
    by_cases (or_cases (same_pair x q) (some (same_pair x) l) h)
    (λ e. ap (before p) (pair_same x q e) ∙ first_leads p q l t)
    (λ k. before_trans p q x (first_leads p q l t) (later x q l (tail_table p (q ∷ l) t) k))

-- the first row is not among the later ones
not_later : (p : ℕ × ℕ) (l : List (ℕ × ℕ)) → is_table (p ∷ l) ≡ true → is_row p l ≡ false
not_later p l t =
    by_cases (true_or_false (is_row p l))
    (λ h. absurd (false≢true (sym (before_other p p (later p p l t h)) ∙ same_pair_lem p p refl)))
    (λ h. h)

row_first : (p : ℕ × ℕ) (l : List (ℕ × ℕ)) → is_row p (p ∷ l) ≡ true
unfolding is_row some
row_first p l = rw (same_pair_lem p p refl)

-- the first rows are the same
same_first : (p q : ℕ × ℕ) (l r : List (ℕ × ℕ)) → is_table (p ∷ l) ≡ true → is_table (q ∷ r) ≡ true → is_row p (q ∷ r) ≡ true → is_row q (p ∷ l) ≡ true → p ≡ q
unfolding is_row some
same_first p q l r t u h k =
    by_cases (or_cases (same_pair p q) (some (same_pair p) r) h)
    (λ e. pair_same p q e)
    (λ a.
    by_cases (or_cases (same_pair q p) (some (same_pair q) l) k)
    (λ e. sym (pair_same q p e))
    (λ b.
    let d : before p p ≡ true = before_trans p q p (later q p l t b) (later p q r u a) in
    absurd (false≢true (sym (before_other p p d) ∙ same_pair_lem p p refl))))

-- what is left after the same first row
rest_row : (x p : ℕ × ℕ) (l r : List (ℕ × ℕ)) → is_table (p ∷ l) ≡ true → is_table (p ∷ r) ≡ true → is_row x (p ∷ l) ≡ is_row x (p ∷ r) → is_row x l ≡ is_row x r
unfolding is_row some
rest_row x p l r t u h =
    by_cases (true_or_false (same_pair x p))
    (λ e.
    let is : x ≡ p = pair_same x p e in
    ap (λ (y : ℕ × ℕ). is_row y l) is ∙ (not_later p l t ∙ sym (ap (λ (y : ℕ × ℕ). is_row y r) is ∙ not_later p r u)))
    (λ e. rw e at h)

pub table_only : (l r : List (ℕ × ℕ)) → is_table l ≡ true → is_table r ≡ true → ((p : ℕ × ℕ) → is_row p l ≡ is_row p r) → l ≡ r
unfolding is_row some
table_only [] [] t u h = refl
table_only [] (q ∷ r) t u h = absurd (false≢true (h q ∙ row_first q r))
table_only (p ∷ l) [] t u h = absurd (false≢true (sym (h p) ∙ row_first p l))
table_only (p ∷ l) (q ∷ r) t u h =
    let e : p ≡ q = same_first p q l r t u (sym (h p) ∙ row_first p l) (h q ∙ row_first q r) in
    let t' : is_table (q ∷ l) ≡ true = ap (λ (x : ℕ × ℕ). is_table (x ∷ l)) (sym e) ∙ t in
    let h' : (x : ℕ × ℕ) → is_row x (q ∷ l) ≡ is_row x (q ∷ r) = λ x. ap (λ (y : ℕ × ℕ). is_row x (y ∷ l)) (sym e) ∙ h x in
    ap (λ (x : ℕ × ℕ). x ∷ l) e ∙ ap (λ (k : List (ℕ × ℕ)). q ∷ k) (table_only l r (tail_table q l t') (tail_table q r u) (λ x. rest_row x q l r t' u (h' x)))
