-- Exclusions may be added in any order. Assumes nothing.
use Prim.Native.Nat.{ℕ}
use mathlib.Core.Path.{◌≡◌, refl, sym, ap, ◌∙◌}
use mathlib.Core.Bool.{true, false, false≢true}
use mathlib.Core.List.{List, [], ◌∷◌}
use lib.Dec.{eqb}
use Rattle.hexadecimal.proofs.Choice.{cases}
use Rattle.lists.specs.Lists.{ordered}
use Rattle.exclusions.specs.Table.{before, same_pair, insert, added}
use Rattle.exclusions.proofs.RowOrder.{pair_same, same_pair_lem, before_trans, before_other, after_other, turned}

not_both : (p q : ℕ × ℕ) → before p q ≡ true → before q p ≡ false
not_both p q h =
    cases (before q p)
    (λ k. absurd (false≢true (sym (before_other p p (before_trans p q p h k)) ∙ same_pair_lem p p refl)))
    (λ k. k)

insert_before : (p q : ℕ × ℕ) (l : List (ℕ × ℕ)) → before p q ≡ true → insert p (insert q l) ≡ insert q (insert p l)
unfolding insert
insert_before p q [] h = simp (not_both p q h, h, after_other p q h)
insert_before p q (x ∷ l) h =
    cases (before x p)
    (λ a. simp (a, before_trans x p q a h) (ap (λ (r : List (ℕ × ℕ)). x ∷ r) (insert_before p q l h)))
    (λ a.
    cases (same_pair x p)
    (λ b. let xq : before x q ≡ true = ap (λ (y : ℕ × ℕ). before y q) (pair_same x p b) ∙ h in simp (a, b, xq))
    (λ b.
    cases (before x q)
    (λ d. simp (a, b, d, h))
    (λ d.
    cases (same_pair x q)
    (λ f. simp (a, b, d, f, h))
    (λ f. simp (a, b, d, f, h, not_both p q h, after_other p q h)))))

insert_comm : (p q : ℕ × ℕ) (l : List (ℕ × ℕ)) → insert p (insert q l) ≡ insert q (insert p l)
insert_comm p q l =
    cases (before p q)
    (λ a. insert_before p q l a)
    (λ a.
    cases (same_pair p q)
    (λ b. let e : p ≡ q = pair_same p q b in rw e)
    (λ b. sym (insert_before q p l (turned p q a b))))

pub added_comm : (a b d e : ℕ) (l : List (ℕ × ℕ)) → added a b (added d e l) ≡ added d e (added a b l)
unfolding added
added_comm a b d e l =
    cases (eqb a b)
    (λ p. cases (eqb d e) (λ q. simp (p, q)) (λ q. simp (p, q)))
    (λ p. cases (eqb d e) (λ q. simp (p, q)) (λ q. simp (p, q) (insert_comm (ordered a b) (ordered d e) l)))
